-- Laws of the functions that are read one by one for the table of borrowed parameters.
use Rattle.prelude.specs.Kit.{ℕ, ◌≤◌, ◌+◌, ◌<◌, suc, zero, arith, dec_lt, ℕ_discrete, true, false, Bool, not, ◌||◌}
use Rattle.prelude.specs.Kit.{or-false, ◌≡◌, refl, ◌∙◌, sym, ap, subst, ◌≢◌, List, [], ◌∷◌, length, get_or, set}
use Rattle.prelude.specs.Kit.{replicate, take, drop, get_or-set_other, get_or-set_same, drop-cons}
use Rattle.semantics.specs.Syntax.{Script, Function, function_at, no_function, size, function_size}
use Rattle.semantics.specs.Normal.{atom, lines, normal, normal_body}
use Rattle.semantics.specs.Borrow.{Table, borrows, spent}
use Rattle.script_read.proofs.Tables.{none_set}
use Rattle.script_read.proofs.Written.{total}
use Rattle.plain_rows.specs.Plain.{Plain, plain}
use Rattle.plain_rows.specs.Marks.{extent}
use Rattle.plain_rows.specs.Stands.{Stands}
use Rattle.flatten_functions.specs.Read.{FunctionLaid}
use Rattle.flatten_functions.specs.Script.{Translatable, Resulting}
use Rattle.flatten_functions.proofs.Functions.{known, function_past, function_there}
use Rattle.borrow_table.specs.Gathered.{Gathered, passed}
use Rattle.borrow_table.specs.Scan.{handed_over, links_in, Scanned}
use Rattle.soundness.proofs.borrowing.Rounds.{Shaped}
use Rattle.borrow_table.proofs.Tables.{shaped_row}
use Rattle.borrow_table.proofs.Reading.{all_at, not_not}
use Rattle.borrow_table.proofs.Links.{passed_append, passed_elsewhere, few_links, normal_arguments, arguments}
use Rattle.borrow_table.proofs.Standing.{scan_right}

-- the functions from 1 to before f are read: D has what they do not hand over, and the first n links what they pass on
pub record Gathering (fs : Script) (f : ℕ) (D : Table) (links : List ℕ) (n : ℕ) : Type 0 where
  pub shaped : Shaped D
  pub long : length links ≡ 1024
  pub few : n + total (drop f fs) ≤ 1024
  pub there : (T : Table) (g i : ℕ) → 0 < g → g < f → i < 8 →
      spent (borrows T) (normal_body (function_at fs g)) i ≡ (not (borrows D g i) || passed (take n links) T g i)
  pub blank : (g i : ℕ) → f ≤ g → g < 32 → i < 8 → borrows D g i ≡ true
  pub main_owns : (i : ℕ) → borrows D 0 i ≡ false
  pub apart : (T : Table) (g i : ℕ) → f ≤ g → g < 256 → passed (take n links) T g i ≡ false

total_drop : (gs : Script) (i : ℕ) → total (drop i gs) ≤ total gs
total_drop [] zero = omega arith
total_drop [] (suc i) = omega arith
total_drop (g ∷ gs) zero = omega arith
total_drop (g ∷ gs) (suc i) = omega (arith, total_drop gs i)

all_there : (n f i : ℕ) → f < n → i < 8 → borrows (replicate n (replicate 8 true)) f i ≡ true
all_there zero f i h l = absurd (omega arith)
all_there (suc n) zero i h l = all_at 8 i l
all_there (suc n) (suc f) i h l = all_there n f i (omega arith) l

all_wide : (n f : ℕ) → f < n → length (get_or (replicate n (replicate 8 true)) f []) ≡ 8
all_wide zero f h = absurd (omega arith)
all_wide (suc n) zero h = refl
all_wide (suc n) (suc f) h = all_wide n f (omega arith)

-- all entries but main's
abbrev pub all_but_main : Table
all_but_main = set (replicate 32 (replicate 8 true)) 0 (replicate 8 false)

pub gather_begin : (fs : Script) (links : List ℕ) → length links ≡ 1024 → total fs ≤ 1024 →
    Gathering fs 1 all_but_main links 0
unfolding passed
gather_begin fs links e h = record {
  shaped = shaped_row {T = replicate 32 (replicate 8 true)} record { rows = refl; columns = all_wide 32 } 0
      (replicate 8 false) (omega arith) refl;
  long = e;
  few = omega (arith, total_drop fs 1);
  there = λ T g i l m o. absurd (let f : ⊥ = omega arith in f);
  blank = others;
  main_owns = λ i. none_set {A = Bool} false 8 i;
  apart = λ T g i l m. refl;
}
  where
    others : (g i : ℕ) → 1 ≤ g → g < 32 → i < 8 → borrows all_but_main g i ≡ true
    others zero i l m o = absurd (let f : ⊥ = omega arith in f)
    others (suc g) i l m o = all_there 31 g i (omega arith) o

-- over the plain code of function f, its tree in the first q rows
module _ (F : Plain) {fs : Script} {f : ℕ} {D : Table} {links : List ℕ} {n : ℕ} (v : Gathering fs f D links n)
    (h : f < length fs) (some : 0 < f) (few : f < 32) (q : ℕ)
    (s : Stands F 64 (normal_body (function_at fs f)) 0 (λ _. 0))
    (wide : extent (normal_body (function_at fs f)) ≡ q) where
  abbrev body : Function
  body = function_at fs f

  total_more : total (drop f fs) ≡ function_size body + total (drop (suc f) fs)
  total_more = ap total (drop-cons fs f no_function h)

  some_links : length (links_in F.rows f q) ≤ function_size body
  unfolding function_size normal_body
  some_links =
      let a : arguments (normal_body body) + 1 ≤ size body.body = normal_arguments body.body _ _ in
      rw (← wide) (omega (arith, few_links F (normal_body body) 64 (λ _. 0) s f, a))

  gather_room : n + length (links_in F.rows f q) ≤ 1024
  gather_room = omega (arith, v.few, total_more, some_links)

  gather_goes : {names : List Bool} {links' : List ℕ} {count : ℕ} →
      Scanned F.rows f q n links names links' count → Gathering fs (f + 1) (set D f names) links' count
  gather_goes {names} {links'} {count} c = record {
    shaped = shaped_row v.shaped f names few c.long;
    long = c.size;
    few = omega (arith, v.few, total_more, some_links, c.many, next);
    there = λ T g i l m o. go T g i l m o (ℕ_discrete g f);
    blank = λ g i l m o. entry_other g i (λ e. omega arith) ∙ v.blank g i (omega arith) m o;
    main_owns = λ i. entry_other 0 i (λ e. omega (arith, some)) ∙ v.main_owns i;
    apart = λ T g i l m. split T g i
        ∙ ap (λ (b : Bool). b || passed (links_in F.rows f q) T g i) (v.apart T g i (omega arith) m)
        ∙ passed_elsewhere F.rows f q 0 0 0 T g i (omega arith) m (λ e. omega arith);
  }
    where
      next : total (drop (f + 1) fs) ≡ total (drop (suc f) fs)
      next = ap (λ (j : ℕ). total (drop j fs)) (let e : f + 1 ≡ suc f = omega arith in e)

      entry_other : (g i : ℕ) → g ≢ f → borrows (set D f names) g i ≡ borrows D g i
      entry_other g i d = ap (λ (r : List Bool). get_or r i false) (get_or-set_other D f g names [] d)

      entry_here : (i : ℕ) → i < 8 → borrows (set D f names) f i ≡ not (handed_over F.rows q i)
      entry_here i l =
          ap (λ (r : List Bool). get_or r i false) (get_or-set_same D f names [] (omega (arith, v.shaped.rows)))
          ∙ c.handed i l

      split : (T : Table) (g i : ℕ) → passed (take count links') T g i
          ≡ passed (take n links) T g i || passed (links_in F.rows f q) T g i
      split T g i =
          ap (λ (ls : List ℕ). passed ls T g i) c.linked
          ∙ passed_append (take n links) (links_in F.rows f q) T g i

      go : (T : Table) (g i : ℕ) → 0 < g → g < f + 1 → i < 8 → Dec (g ≡ f) →
          spent (borrows T) (normal_body (function_at fs g)) i
          ≡ (not (borrows (set D f names) g i) || passed (take count links') T g i)
      go T g i l m o (yes z) =
          rw z (scan_right F (normal_body body) 64 (λ _. 0) s T f i (omega arith) o
          ∙ ap (λ (p : ℕ). handed_over F.rows p i || passed (links_in F.rows f p) T f i) wide
          ∙ ap (λ (b : Bool). b || passed (links_in F.rows f q) T f i)
          (not_not (handed_over F.rows q i) ∙ ap not (sym (entry_here i o)))
          ∙ ap (λ (b : Bool). not (borrows (set D f names) f i) || b)
          (sym (split T f i ∙ ap (λ (b : Bool). b || passed (links_in F.rows f q) T f i)
          (v.apart T f i (omega arith) (omega arith)))))
      go T g i l m o (no z) =
          v.there T g i l (omega (arith, z)) o
          ∙ ap (λ (b : Bool). not b || passed (take n links) T g i) (sym (entry_other g i z))
          ∙ ap (λ (b : Bool). not (borrows (set D f names) g i) || b)
          (sym (split T g i
          ∙ ap (λ (b : Bool). passed (take n links) T g i || b)
          (passed_elsewhere F.rows f q 0 0 0 T g i (omega arith) (omega arith) (λ e. z (sym e)))
          ∙ or-false (passed (take n links) T g i)))

-- the function that is laid is the one whose turn it is
module _ {k w : List ℕ} {m : ℕ} {ss rs : List ℕ} (t : Translatable k w m ss) (hd : Resulting t.tree rs) {f at : ℕ}
    {D : Table} {links : List ℕ} {n : ℕ} (v : Gathering t.tree f D links n) (some : 0 < f) (h : f < m)
    (e : at ≡ get_or ss f 0)
    {rows notes last depths : List ℕ} {q : ℕ} (laid : FunctionLaid k w rs at rows notes last depths q) where
  stands : Stands (plain w rows notes) 64 (normal_body (function_at t.tree f)) 0 (λ _. 0)
  stands =
      subst (λ (g : Function). Stands (plain w rows notes) 64 (normal_body g) 0 (λ _. 0))
      (function_there t hd f at h e) laid.stands

  wide : extent (normal_body (function_at t.tree f)) ≡ q
  wide = ap (λ (g : Function). extent (normal_body g)) (sym (function_there t hd f at h e)) ∙ laid.wide

  here : f < length t.tree
  here = omega (arith, (known t).1.0)

  pub laid_room : n + length (links_in rows f q) ≤ 1024
  laid_room = gather_room (plain w rows notes) v here some (omega (arith, t.few)) q stands wide

  pub laid_goes : {names : List Bool} {links' : List ℕ} {count : ℕ} → Scanned rows f q n links names links' count →
      Gathering t.tree (f + 1) (set D f names) links' count
  laid_goes = gather_goes (plain w rows notes) v here some (omega (arith, t.few)) q stands wide

pub gather_ends : {fs : Script} {f : ℕ} {D : Table} {links : List ℕ} {n : ℕ} → Gathering fs f D links n →
    length fs ≤ f → Gathered fs D (take n links)
unfolding spent normal_body normal lines atom
gather_ends {fs} {f} {D} {links} {n} v h = record {
  at = λ T g i l m o. go T g i l m o (dec_lt g f);
  main_owns = v.main_owns;
}
  where
    go : (T : Table) (g i : ℕ) → 0 < g → g < 32 → i < 8 → Dec (g < f) →
        spent (borrows T) (normal_body (function_at fs g)) i ≡ (not (borrows D g i) || passed (take n links) T g i)
    go T g i l m o (yes y) = v.there T g i l y o
    go T g i l m o (no y) =
        rw (
          function_past fs g (omega (arith, y)),
          v.blank g i (omega (arith, y)) m o,
          v.apart T g i (omega (arith, y)) (omega arith),
        )
