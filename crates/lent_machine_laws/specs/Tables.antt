-- The table that `machine_table` fills for lent code in form: the lines of its functions, and where its trees end.
use Rattle.std.specs.Prelude.{ℕ, ◌≤◌, ◌+◌, ◌<◌, ◌-◌, suc, zero, ◌*◌, min, ◌≡◌, refl, List, [], ◌∷◌, ◌++◌, map, ℤ, pos}
use Rattle.std.specs.Prelude.{length, get_or, take}
use Rattle.prelude.specs.Kit.{arith, ◌∙◌, sym, ap, subst, ap₂, append_assoc, get_or-eq_default, length-append}
use Rattle.prelude.specs.Kit.{length-take, length-map, get_or-append_seam}
use Rattle.semantics.specs.Annotate.{NameDepths}
use Rattle.semantics_lent.specs.Form.{Lent, paired, code_length, lent_rows}
use Rattle.machine_code.specs.Reading.{start_in, depth_in}
use Rattle.machine_table.specs.Positions.{starts_from, ends_from, filled}
use Rattle.machine_table.proofs.Filling.{filled_long}
use Rattle.machine_spec.specs.Machine.{code}
use Rattle.machine_code.specs.Rows.{At, at_end, at_cut}
use Rattle.machine_laws.specs.Ends.{Roomy, tree_ends, ends_below, ends_long}
use Rattle.machine_laws.specs.Functions.{AllSome}
use Rattle.machine_laws.specs.Starts.{Begin, starts_stand, starts_below, starts_ends}
use Rattle.lent_passing.specs.Functions.{lent_function, lent_code}
use Rattle.lent_passing.specs.SaidFunctions.{Formable}
use Rattle.lent_machine_laws.specs.Stands.{lent_head, lent_joined, LentCoded}

-- ---- where the functions begin

-- each of some functions begins where the rows of those before it end; the first has number f and begins at p
abbrev pub LentBegin : List ℕ → List Lent → ℕ → ℕ → Type 0
LentBegin places gs f p = Begin places (map lent_function gs) f p

lent_some : (gs : List Lent) → AllSome (map lent_function gs)
lent_some [] = tt
lent_some (g ∷ gs) = (omega arith, lent_some gs)

module _ (kinds : List ℕ) (places : List ℕ) (gs : List Lent) (table : List ℕ) (long : Roomy table)
    (many : length gs ≤ 32) (there : length (lent_code gs) ≤ length kinds) (short : length (lent_code gs) ≤ 4096)
    (begin : LentBegin places gs 0 0) where
  lent_starts : (g : ℕ) → g < length gs → start_in (starts_from (length gs) kinds places 0 table) g ≡ lent_head gs g
  lent_starts g l =
      let rss = map lent_function gs in
      let as_many = length-map gs lent_function in
      let rows_as_many = ap length (lent_joined gs) in
      ap₂ (λ (m : ℕ) (n : ℕ). start_in (starts_from m kinds places 0 table) n) (sym as_many)
      (let z : g ≡ 0 + g = omega arith in z)
      ∙ starts_stand kinds places rss 0 0 table long (omega (arith, many, as_many)) (omega (arith, there, rows_as_many))
      (omega (arith, short, rows_as_many)) (lent_some gs) begin g (omega (arith, l, as_many))
      ∙ (let z : 0 + lent_head gs g ≡ lent_head gs g = omega arith in z)

-- ---- the rows of two arrays stand in them

paired_written : (n : ℕ) (ks ps : List ℕ) (os qs : List ℤ) → length ps ≡ length qs →
    At (ps ++ ks) (qs ++ os) (length ps) (take n (paired ks os))
unfolding paired
paired_written zero ks ps os qs e = tt
paired_written (suc n) [] ps os qs e = tt
paired_written (suc n) (k ∷ ks) ps [] qs e = tt
paired_written (suc n) (k ∷ ks) ps (o ∷ os) qs e = (
  record {
    kind = get_or-append_seam ps k ks 0;
    operand = ap (λ (m : ℕ). get_or (qs ++ (o ∷ os)) m (pos 0)) e ∙ get_or-append_seam qs o os (pos 0);
    within = omega (arith, length-append ps (k ∷ ks));
    held = omega (arith, e, length-append qs (o ∷ os));
  },
  let z : length (ps ++ (k ∷ [])) ≡ length ps + 1 = omega (arith, length-append ps (k ∷ [])) in
      let y : length (ps ++ (k ∷ [])) ≡ length (qs ++ (o ∷ [])) = omega (arith, z, e, length-append qs (o ∷ [])) in
      subst (λ (m : ℕ). At (ps ++ (k ∷ ks)) (qs ++ (o ∷ os)) m (take n (paired ks os))) z
      (subst (λ (l : List ℕ). At l (qs ++ (o ∷ os)) (length (ps ++ (k ∷ []))) (take n (paired ks os)))
      (append_assoc ps (k ∷ []) ks)
      (subst (λ (l : List ℤ). At ((ps ++ (k ∷ [])) ++ ks) l (length (ps ++ (k ∷ []))) (take n (paired ks os)))
      (append_assoc qs (o ∷ []) os)
      (paired_written n ks (ps ++ (k ∷ [])) os (qs ++ (o ∷ [])) y))),
)

-- ---- the table filled

module _ (kinds : List ℕ) (operands : List ℤ) (gs : List Lent) (Γs : List NameDepths) (lines : ℕ)
    (said : Formable kinds operands gs lines) (places table : List ℕ) (long : Roomy table)
    (begin : LentBegin places gs 0 0)
    (deep : (g x : ℕ) → g < length gs → x < 256 → depth_in table g x ≡ get_or Γs g (λ _. 0) x) where
  abbrev ks : List ℕ
  ks = take lines kinds

  abbrev os : List ℤ
  os = take lines operands

  written : At kinds operands 0 (lent_code gs)
  unfolding lent_rows
  written = subst (At kinds operands 0) said.rows
      (paired_written (min 4096 (code_length kinds operands)) kinds [] operands [] refl)

  past : (q : ℕ) → lines ≤ q → get_or ks q 0 ≡ 0
  past q h = get_or-eq_default ks 0 (omega (arith, h, length-take lines kinds))

  abbrev ends : List ℕ
  ends = ends_from lines ks table

  abbrev full : List ℕ
  full = starts_from (length gs) ks places 0 ends

  -- with the lines cut, the table has what a delivery needs
  coded_with : LentCoded gs Γs (code ks os full)
  unfolding depth_in
  coded_with =
      let there : length (lent_code gs) ≤ length ks =
      omega (
        arith,
        at_end kinds operands 0 (lent_code gs) (omega arith) written,
        length-take lines kinds,
        said.count,
      ) in
      record {
        written = at_cut kinds operands lines 0 (lent_code gs) (omega (arith, said.count)) written;
        starts = lent_starts ks places gs ends (omega (arith, long, ends_long ks lines table)) said.many there
            (omega (arith, said.short, said.count)) begin;
        depths = λ g x l m. starts_below ks places (length gs) 0 ends (256 * g + x) (omega (arith, l, m, said.many))
            ∙ ends_below ks lines table (256 * g + x) (omega (arith, l, m, said.many))
            ∙ deep g x l m;
        ends = λ t q w. starts_ends ks places (length gs) 0 ends q (omega (arith, said.many))
            ∙ tree_ends ks os lines said.short past table long t q w;
      }

  pub lent_coded : LentCoded gs Γs (code ks os (filled (length gs) lines ks places table))
  lent_coded = subst (λ (t : List ℕ). LentCoded gs Γs (code ks os t))
      (filled_long (length gs) lines ks places table long _ _ refl refl) coded_with
