-- The passes of a loop over positions are those of the machine, by what a pass carries.
use Rattle.std.specs.Prelude.{ℕ, ◌≤◌, ◌+◌, ◌<◌, ◌-◌, suc, zero, ◌*◌, ◌%◌, ◌/◌, pred, ◌≡◌, refl, List, [], ◌∷◌, ◌++◌}
use Rattle.std.specs.Prelude.{map, ℤ, pos, length, get_or}
use Rattle.prelude.specs.Kit.{arith, sub-one, ◌∙◌, sym, ap, subst, ap₂}
use Rattle.semantics.specs.Basics.{tabulate, updated}
use Rattle.semantics.specs.Outcome.{Outcome, stop, onward, ◌>>◌, give, passes}
use Rattle.semantics.specs.Kinds.{Loop, mapping, filtering, reducing, rewriting, loop_kind, packed_names}
use Rattle.semantics.specs.Kinds.{Borrowing}
use Rattle.semantics.specs.Store.{Store, cell, cell_of, elements}
use Rattle.semantics.specs.Code as K
use Rattle.semantics.specs.Code.{row, atom_row, rows}
use Rattle.semantics.specs.Kinds.{loop_array}
use Rattle.semantics.specs.Live.{Set, ◌∪◌, only, just, among, after_pass}
use Rattle.semantics.specs.Annotate.{NameDepths}
use Rattle.semantics.specs.Machine as M
use Rattle.semantics.specs.Machine.{State, Frame, Program, word, step, stepped, with_left, work, work_line, work_pass}
use Rattle.semantics.specs.Machine.{elements_of, held, touching, looped_over}
use Rattle.semantics.specs.Machine.{carried_first, pass_words, in_progress, loop_ends}
use Rattle.laws.specs.Tests.{or_left}
use Rattle.discipline.proofs.machine.Discipline.{AllKnown, New, AllNew, LoopFits, Fitting, Scoped}
use Rattle.machine_code.specs.Reading.{atom_at, line_of, line_at, depth_in, end_in}
use Rattle.kinds.specs.declared.Atom.{Atom}
use Rattle.machine_code.specs.declared.Line.{Line}
use Rattle.machine_frames.specs.Frames.{place, word_of, element_depth, level_place}
use Rattle.machine_frames.specs.Work.{Memory, memory, Ran, out, bound}
use Rattle.machine_lines.specs.Lines.{array_of, Doing, looping, doing}
use Rattle.machine_loops.specs.declared.Way.{Way}
use Rattle.machine_loops.specs.Loops.{way_of, carry_first}
use Rattle.machine_spec.specs.Machine.{Code, Callee, and_then, binding_passed, Looped, looped, carry_by, carry_on}
use Rattle.machine_spec.specs.Machine.{passes_on, loop_worked, loop_line, tree_on}
use Rattle.machine_code.specs.Rows.{Here, At, coded, atom_here, line_read}
use Rattle.machine_laws.specs.Ends.{Jumps}
use Rattle.machine_laws.specs.Frames.{Bounded, FrameAgrees, FrameKept, small_known, word_same, kept_none}
use Rattle.machine_laws.specs.Frames.{Framed, framed_kept, kept_then}
use Rattle.machine_laws.specs.Frames.{agrees_kept, bounded_all}
use Rattle.machine_laws.specs.Passes.{PassNames, maps, filters, reduces, rewrites, entered_agrees, entered_kept}
use Rattle.machine_laws.specs.Passes.{element_known, element_word, first_small, second_small, carry_first_same}
use Rattle.machine_laws.specs.Passes.{after_body, carry_by_same, way_stays, ends_same}
use Rattle.machine_laws.specs.Levels.{LevelsAgree, levels_set, levels_touched}
use Rattle.machine_laws.specs.Same.{Rel, WordDone, TreeDone, LineDone, rel_then, rel_step, rel_map}
use Rattle.machine_laws.specs.Same.{onward_onward, word_moved, word_kept}

-- ---- how a loop stands in the code: a clause for each kind

pub record LoopRead (c : Code) (calls at : ℕ) (m : Memory) (x : ℕ) (k : Loop) (ps : List ℕ) (us : List K.Atom)
    : Type 0 where
  pub first : ℕ
  pub second : ℕ
  pub names : PassNames k ps first second
  pub is : doing c.kinds c.operands c.table calls at m (line_at c.kinds c.operands at)
      ≡ looping x k first second (map coded us)

module _ (p : Program) (Γ : NameDepths) (c : Code) (calls at : ℕ) (m : Memory) (S : Set) (b : Bounded S) where
  abbrev done_by : Line → Doing
  done_by l = doing c.kinds c.operands c.table calls at m l

  -- a loop of one atom and one name, by what its kind is
  one_read : (kind : ℕ) (k : Loop) → ((n : ℕ) (a o : Atom) →
      done_by (line_of kind n a o) ≡ looping (n % 256) k (n / 256 % 256) (n / 256 % 256) (a ∷ [])) →
      (x q : ℕ) (u : K.Atom) → New x S → AllNew (q ∷ []) S → AllKnown (u ∷ []) S →
      Here c.kinds c.operands at (row kind (x + 256 * packed_names (q ∷ []))) →
      At c.kinds c.operands (at + 1) (map atom_row (u ∷ [])) →
      done_by (line_at c.kinds c.operands at) ≡ looping x k q q (coded u ∷ [])
  one_read kind k told x q u new news known r rs =
      let n = x + 256 * (q + 256 * 0) in
      ap done_by (line_read c.kinds c.operands at kind n (coded u) _
      (omega (arith, new.small, news.0.small)) r.kind r.operand
      (atom_here c.kinds c.operands (at + 1) u (small_known u S b known.0) rs.0) refl)
      ∙ told n (coded u) _
      ∙ ap₂ (λ (y : ℕ) (z : ℕ). looping y k z z (coded u ∷ []))
      (let z : n % 256 ≡ x = omega (arith, new.small) in z)
      (let z : n / 256 % 256 ≡ q = omega (arith, new.small, news.0.small) in z)

  two_read : (x q o : ℕ) (u v : K.Atom) → New x S → AllNew (q ∷ (o ∷ [])) S → AllKnown (u ∷ (v ∷ [])) S →
      Here c.kinds c.operands at (row 20 (x + 256 * packed_names (q ∷ (o ∷ [])))) →
      At c.kinds c.operands (at + 1) (map atom_row (u ∷ (v ∷ []))) →
      done_by (line_at c.kinds c.operands at) ≡ looping x reducing q o (coded u ∷ (coded v ∷ []))
  unfolding doing
  two_read x q o u v new news known r rs =
      let n = x + 256 * (q + 256 * (o + 256 * 0)) in
      let small : n < 16777216 = omega (arith, new.small, news.0.small, news.1.0.small) in
      let second : at + 2 ≡ at + 1 + 1 = omega arith in
      ap done_by (line_read c.kinds c.operands at 20 n (coded u) (coded v) small r.kind r.operand
      (atom_here c.kinds c.operands (at + 1) u (small_known u S b known.0) rs.0)
      (ap (atom_at c.kinds c.operands) second
      ∙ atom_here c.kinds c.operands (at + 1 + 1) v (small_known v S b known.1.0) rs.1.0))
      ∙ ap₂ (λ (y : ℕ) (z : ℕ). looping y reducing z (n / 65536 % 256) (coded u ∷ (coded v ∷ [])))
      (let z : n % 256 ≡ x = omega (arith, new.small) in z)
      (let z : n / 256 % 256 ≡ q = omega (arith, new.small, news.0.small) in z)
      ∙ ap (λ (z : ℕ). looping x reducing q z (coded u ∷ (coded v ∷ [])))
      (let z : n / 65536 % 256 ≡ o = omega (arith, new.small, news.0.small, news.1.0.small) in z)

  pub loop_read : (x : ℕ) (k : Loop) (ps : List ℕ) (us : List K.Atom) (d : ℕ) → LoopFits p Γ x k ps us d → New x S →
      AllNew ps S → AllKnown us S →
      Here c.kinds c.operands at (row (loop_kind k) (x + 256 * packed_names ps)) →
      At c.kinds c.operands (at + 1) (map atom_row us) → LoopRead c calls at m x k ps us
  unfolding doing
  loop_read x mapping (q ∷ []) (u ∷ []) d fits new news known r rs = record {
    first = q;
    second = q;
    names = maps q;
    is = one_read 13 mapping (λ n a o. refl) x q u new news known r rs;
  }
  loop_read x mapping [] us d fits new news known r rs = absurd (omega (arith, ap length fits.names))
  loop_read x mapping (q ∷ o ∷ ps) us d fits new news known r rs = absurd (omega (arith, ap length fits.names))
  loop_read x mapping (q ∷ []) [] d fits new news known r rs = absurd (omega (arith, fits.limits))
  loop_read x mapping (q ∷ []) (u ∷ v ∷ us) d fits new news known r rs = absurd (omega (arith, fits.limits))
  loop_read x filtering (q ∷ []) (u ∷ []) d fits new news known r rs = record {
    first = q;
    second = q;
    names = filters q;
    is = one_read 19 filtering (λ n a o. refl) x q u new news known r rs;
  }
  loop_read x filtering [] us d fits new news known r rs = absurd (omega (arith, ap length fits.names))
  loop_read x filtering (q ∷ o ∷ ps) us d fits new news known r rs = absurd (omega (arith, ap length fits.names))
  loop_read x filtering (q ∷ []) [] d fits new news known r rs = absurd (omega (arith, fits.limits))
  loop_read x filtering (q ∷ []) (u ∷ v ∷ us) d fits new news known r rs = absurd (omega (arith, fits.limits))
  loop_read x reducing (q ∷ o ∷ []) (u ∷ v ∷ []) d fits new news known r rs = record {
    first = q;
    second = o;
    names = reduces q o;
    is = two_read x q o u v new news known r rs;
  }
  loop_read x reducing [] us d fits new news known r rs = absurd (omega (arith, ap length fits.names))
  loop_read x reducing (q ∷ []) us d fits new news known r rs = absurd (omega (arith, ap length fits.names))
  loop_read x reducing (q ∷ o ∷ h ∷ ps) us d fits new news known r rs = absurd (omega (arith, ap length fits.names))
  loop_read x reducing (q ∷ o ∷ []) [] d fits new news known r rs = absurd (omega (arith, fits.limits))
  loop_read x reducing (q ∷ o ∷ []) (u ∷ []) d fits new news known r rs = absurd (omega (arith, fits.limits))
  loop_read x reducing (q ∷ o ∷ []) (u ∷ v ∷ w ∷ us) d fits new news known r rs = absurd (omega (arith, fits.limits))
  loop_read x rewriting (q ∷ []) (u ∷ []) d fits new news known r rs = record {
    first = q;
    second = q;
    names = rewrites q;
    is = one_read 21 rewriting (λ n a o. refl) x q u new news known r rs;
  }
  loop_read x rewriting [] us d fits new news known r rs = absurd (omega (arith, ap length fits.names))
  loop_read x rewriting (q ∷ o ∷ ps) us d fits new news known r rs = absurd (omega (arith, ap length fits.names))
  loop_read x rewriting (q ∷ []) [] d fits new news known r rs = absurd (omega (arith, fits.limits))
  loop_read x rewriting (q ∷ []) (u ∷ v ∷ us) d fits new news known r rs = absurd (omega (arith, fits.limits))

-- ---- all loops

coded_words : (calls : ℕ) (env : List ℤ) (ρ : Frame) (S : Set) → FrameAgrees calls env ρ S → (us : List K.Atom) →
    AllKnown us S → map (word_of calls env) (map coded us) ≡ map (word ρ) us
coded_words calls env ρ S g [] h = refl
coded_words calls env ρ S g (u ∷ us) h =
    ap₂ {C = List ℤ} ◌∷◌ (word_same calls env ρ S g u h.0) (coded_words calls env ρ S g us h.1)

-- the word of the first name is the element's, or is not asked for
carried_element : {k : Loop} {ps : List ℕ} {y z : ℕ} → PassNames k ps y z → (e : ℕ) (a v : ℤ) (i : ℕ) (w : Ran)
    (env : List ℤ) (calls : ℕ) (item : ℤ) → get_or env (place calls z) (pos 0) ≡ item →
    carry_by (way_of k e (cell_of a) v) v i (get_or env (place calls y) (pos 0)) w
    ≡ carry_by (way_of k e (cell_of a) v) v i item w
carried_element (maps q) e a v i w env calls item h =
    ap (λ (o : ℤ). carry_by (way_of mapping e (cell_of a) v) v i o w) h
carried_element (filters q) e a v i w env calls item h =
    ap (λ (o : ℤ). carry_by (way_of filtering e (cell_of a) v) v i o w) h
carried_element (reduces q o) e a v i w env calls item h = refl
carried_element (rewrites q) e a v i w env calls item h =
    ap (λ (o : ℤ). carry_by (way_of rewriting e (cell_of a) v) v i o w) h

module _ (free : ℕ) (p : Program) (callee : M.Callee) (β : Borrowing) (Γ : NameDepths) (c : Code) (calls f : ℕ)
    (C : Callee) where
  -- a tree at a position is worked as the tree
  abbrev pub TreeClaim : K.Tree → Type 0
  TreeClaim t = (n : ℕ) → length (rows t) ≤ n → n ≤ 4096 → (S : Set) (d : ℕ) → Fitting p Γ t d → Scoped t S →
      Bounded S → (at : ℕ) → At c.kinds c.operands at (rows t) → (L : Set) (R : List ℕ) (ρ : Frame) (s : State)
      (env : List ℤ) → FrameAgrees calls env ρ S → Framed calls f env → LevelsAgree free s.log env →
      Rel free (TreeDone free (at + length (rows t)) calls env S)
      (tree_on n C c calls at s.left (memory s.store env)) (work callee β Γ t L R ρ s)

  -- the passes of a loop over the array a, whose tree t is at a position
  module _ (n : ℕ) (few : n ≤ 4096) (S : Set) (b : Bounded S) (ρ : Frame) (k : Loop) (ps : List ℕ) (y z : ℕ)
      (names : PassNames k ps y z) (new : AllNew ps S) (e : ℕ) (t : K.Tree) (claim : TreeClaim t)
      (lt : length (rows t) ≤ n) (d : ℕ) (fit : Fitting p Γ t d)
      (scoped : Scoped t (S ∪ just ps)) (at : ℕ) (rs : At c.kinds c.operands at (rows t)) (B : Set) (R : List ℕ)
      (a : ℤ) (way : Way) where
    abbrev W : ℕ → Memory → Ran
    W = tree_on n C c calls at

    abbrev l : Looped
    l = looped way W calls y z (cell_of a)

    -- a word was carried on, which goes with the way
    abbrev Carried : List ℤ → Ran → ℤ → State → Type 0
    Carried env w v s = WordDone free calls env S w v s × (way ≡ way_of k e (cell_of a) v)

    abbrev body : List ℤ → M.Work ℤ
    body = λ vs. work callee β Γ t B R (M.binding ps vs ρ)

    abbrev rest : ℕ → ℕ → ℤ → M.Work ℤ
    rest count i v = passes (work_pass k e body a) v (tabulate i count (λ j. j))

    -- one pass, before the others
    pass_same : (count i : ℕ) (v : ℤ) → way ≡ way_of k e (cell_of a) v → (s₀ : State) (e₀ : List ℤ) →
        FrameAgrees calls e₀ ρ S → Framed calls f e₀ → LevelsAgree free s₀.log e₀ →
        ((u : ℤ) → way ≡ way_of k e (cell_of a) u → (s₁ : State) (e₁ : List ℤ) → FrameAgrees calls e₁ ρ S →
        Framed calls f e₁ → LevelsAgree free s₁.log e₁ → Rel free (Carried e₁)
        (passes_on l count u (suc i) s₁.left (memory s₁.store e₁)) (rest count (suc i) u s₁)) →
        (m : ℕ) → s₀.left ≡ m →
        Rel free (Carried e₀) (passes_on l (suc count) v i m (memory s₀.store e₀))
        (onward (λ u. rest count (suc i) u) (onward (λ _ s₁. onward (λ ws s₂. onward
        (λ r. after_body k e a i v (get_or ws i (pos 0)) r) (body (pass_words k v (get_or ws i (pos 0))) s₂))
        (elements_of a s₁)) (stepped m s₀)))
    unfolding passes_on onward stepped with_left elements_of M.with_store
    pass_same count i v we s₀ e₀ g₀ l₀ v₀ more zero q =
        record { stop = refl; real = λ z. omega arith; steps = sym q; levels = v₀ }
    pass_same count i v we s₀ e₀ g₀ l₀ v₀ more (suc m) q =
        subst (λ (o : Outcome State ℤ). Rel free (Carried e₀) (and_then (W m (memory s₀.store e₁)) carry) o)
        (sym (onward_onward (λ u. rest count (suc i) u) (λ r. after_body k e a i v item r) (body vs s₁)))
        (rel_then free (TreeDone free (at + length (rows t)) calls e₁ (S ∪ just ps)) (Carried e₀)
        (W m (memory s₀.store e₁)) (body vs s₁) carry
        (λ r s₂. onward (λ u. rest count (suc i) u) (after_body k e a i v item r s₂))
        (claim n lt few (S ∪ just ps) d fit scoped (bounded_all ps S new b) at rs B R (M.binding ps vs ρ) s₁ e₁
        (entered_agrees calls e₀ ρ S b l₀ v item names new g₀) (framed_kept kept₁ l₀) levels₁)
        (λ r s₂ h. after r s₂ h))
      where
        item : ℤ
        item = get_or (elements (cell s₀.store (cell_of a))) i (pos 0)

        vs : List ℤ
        vs = pass_words k v item

        e₁ : List ℤ
        e₁ = bound calls z item (bound calls y v e₀)

        kept₁ : FrameKept calls e₀ e₁ S
        kept₁ = entered_kept calls e₀ ρ S b l₀ v item names new

        small : (o : ℕ) → o < 256 → place calls o < level_place
        small o h = omega (arith, h, l₀.few)

        levels₁ : LevelsAgree free (s₀.log ++ touching s₀.store (cell_of a)) e₁
        levels₁ = levels_touched (levels_set (levels_set v₀ (place calls y) v (small y (first_small S names new)))
            (place calls z) item (small z (second_small S names new))) s₀.store (cell_of a)

        s₁ : State
        s₁ = M.with_store (with_left s₀ m) s₀.store (touching s₀.store (cell_of a))

        carry : Ran → Ran
        carry = λ w. and_then (carry_on l v i w)
            (λ u. passes_on l count u.out.value (i + 1) u.out.steps u.memory)

        after : (r : ℤ) (s₂ : State) →
            TreeDone free (at + length (rows t)) calls e₁ (S ∪ just ps) (W m (memory s₀.store e₁)) r s₂ →
            Rel free (Carried e₀) (carry (W m (memory s₀.store e₁)))
            (onward (λ u. rest count (suc i) u) (after_body k e a i v item r s₂))
        after r s₂ h =
            let w : Ran = W m (memory s₀.store e₁) in
            let o : ℤ = get_or w.memory.env (place calls y) (pos 0) in
            let x : Ran = carry_on l v i w in
            rel_then free (WordDone free calls w.memory.env S) (Carried e₀) x (after_body k e a i v item r s₂)
            (λ u. passes_on l count u.out.value (i + 1) u.out.steps u.memory) (λ u. rest count (suc i) u)
            (subst (λ (y : Way). Rel free (WordDone free calls w.memory.env S) (carry_by y v i o w)
            (after_body k e a i v item r s₂)) (sym we)
            (subst (λ (x : Ran). Rel free (WordDone free calls w.memory.env S) x (after_body k e a i v item r s₂))
            (sym (carried_element names e a v i w w.memory.env calls item
            (h.word.kept.names z (element_known calls e₀ ρ S b l₀ v item names)
            ∙ element_word calls e₀ ρ S b l₀ v item y z ((bounded_all ps S new b).below z
            (element_known calls e₀ ρ S b l₀ v item names)))))
            (carry_by_same free k e a i v item calls S w r s₂ h.word.value h.word.steps h.word.store
            h.word.levels)))
            (λ u s₃ q.
            let kept : FrameKept calls e₀ x.memory.env S =
            kept_then calls e₀ w.memory.env x.memory.env S S (λ y z. z)
            (kept_then calls e₀ e₁ w.memory.env S (S ∪ just ps) (λ y z. or_left (S y) (just ps y) z)
            kept₁ h.word.kept) q.kept in
            subst (λ (y : Ran). Rel free (Carried e₀) y (rest count (suc i) u s₃))
            (sym (word_moved (λ y j μ. passes_on l count y (i + 1) j μ) q
            ∙ ap (λ (j : ℕ). passes_on l count u j s₃.left (memory s₃.store x.memory.env))
            (let z : i + 1 ≡ suc i = omega arith in z)))
            (rel_map free (Carried x.memory.env) (Carried e₀)
            (passes_on l count u (suc i) s₃.left (memory s₃.store x.memory.env)) (rest count (suc i) u s₃)
            (λ y s₄ z. (word_kept free calls e₀ x.memory.env S S (λ o j. j) kept _ y s₄ z.0, z.1))
            (more u (way_stays k e (cell_of a) v way we i o w ∙ ap (way_of k e (cell_of a)) q.value) s₃
            x.memory.env (agrees_kept calls e₀ x.memory.env ρ S g₀ kept) (framed_kept kept l₀) q.levels)))

    passes_same : (count i : ℕ) (v : ℤ) → way ≡ way_of k e (cell_of a) v → (s₀ : State) (e₀ : List ℤ) →
        FrameAgrees calls e₀ ρ S → Framed calls f e₀ → LevelsAgree free s₀.log e₀ →
        Rel free (Carried e₀) (passes_on l count v i s₀.left (memory s₀.store e₀)) (rest count i v s₀)
    unfolding passes_on passes tabulate work_pass step
    passes_same zero i v we s₀ e₀ g₀ l₀ v₀ =
        (refl, (record { value = refl; steps = refl; store = refl; kept = kept_none calls e₀ S; levels = v₀ }, we))
    passes_same (suc count) i v we s₀ e₀ g₀ l₀ v₀ =
        pass_same count i v we s₀ e₀ g₀ l₀ v₀
        (λ u ue s₁ e₁ g₁ l₁ v₁. passes_same count (suc i) u ue s₁ e₁ g₁ l₁ v₁) s₀.left refl

  -- a loop's line
  module _ (depths : (x : ℕ) → x < 256 → depth_in c.table f x ≡ Γ x) (jumps : Jumps c) (n : ℕ) (few : n ≤ 4096)
      (S : Set) (b : Bounded S) (at : ℕ) (A : Set) (R : List ℕ) (ρ : Frame) (s : State) (env : List ℤ)
      (g : FrameAgrees calls env ρ S) (framed : Framed calls f env) (levels : LevelsAgree free s.log env) (x : ℕ)
      (k : Loop) (ps : List ℕ) (us : List K.Atom)
      (t : K.Tree) (y z : ℕ) (names : PassNames k ps y z) (new : New x S) (news : AllNew ps S)
      (known : AllKnown us S) (claim : TreeClaim t)
      (lt : length (rows t) ≤ n) (d : ℕ) (fit : Fitting p Γ t d) (scoped : Scoped t (S ∪ just ps))
      (rs : At c.kinds c.operands (at + suc (length (map coded us))) (rows t)) (goal : ℕ)
      (ge : at + suc (length (map coded us)) + length (rows t) ≡ goal) where
    abbrev Done : Ran → Frame → State → Type 0
    Done = LineDone free goal calls env S (S ∪ only x)

    abbrev ws : List ℤ
    ws = map (word ρ) us

    abbrev array : ℤ
    array = looped_over k ws

    abbrev start : ℕ
    start = at + suc (length (map coded us))

    abbrev B : Set
    B = after_pass x ps t A

    abbrev R' : List ℕ
    R' = R ++ held Γ (among (loop_array k us) B) ρ

    abbrev way : ℤ → Way
    way v = way_of k (pred (Γ x)) (cell_of array) v

    abbrev count : ℕ
    count = length (array_of s.store array)

    abbrev next : ℕ
    next = end_in c.table start

    -- the passes over positions, into the first of which v is carried, and what follows them
    abbrev passed : ℤ → ℕ → Memory → Ran
    passed v j μ = passes_on (looped (way v) (tree_on n C c calls start) calls y z (cell_of array)) count v 0 j μ

    abbrev follows : Ran → Ran
    follows v = and_then (passed v.out.value v.out.steps v.memory)
        (λ w. binding_passed (way v.out.value) (cell_of array) calls x next w)

    -- the same in the machine
    abbrev run : ℤ → M.Work ℤ
    run v = passes (work_pass k (pred (Γ x)) (λ vs. work callee β Γ t B (R' ++ in_progress k v) (M.binding ps vs ρ))
        array) v (tabulate 0 count (λ i. i))

    abbrev ends : ℤ → M.Work Frame
    ends w = loop_ends k array w >> give (updated ρ x w)

    after_first : (m : ℕ) (s₂ : State) → m ≡ s₂.left → s.store ≡ s₂.store → LevelsAgree free s₂.log env →
        Rel free Done (and_then (carry_first k (pred (Γ x)) ws m (memory s.store env)) follows)
        (onward (λ v s₃. onward ends (run v s₃)) (carried_first k R' (pred (Γ x)) ws s₂))
    after_first m s₂ e h told =
        rel_then free (WordDone free calls env S) Done first (carried_first k R' (pred (Γ x)) ws s₂) follows
        (λ v s₃. onward ends (run v s₃))
        (subst (λ (σ : Store). Rel free (WordDone free calls env S) (carry_first k (pred (Γ x)) ws m (memory σ env))
        (carried_first k R' (pred (Γ x)) ws s₂)) (sym h)
        (carry_first_same free k R' (pred (Γ x)) ws calls S b env m s₂ e framed told))
        (λ v s₃ q.
        subst (λ (u : Ran). Rel free Done u (onward ends (run v s₃)))
        (sym (word_moved (λ u j μ. and_then (passed u j μ)
        (λ w. binding_passed (way u) (cell_of array) calls x next w)) q))
        (rel_then free (λ w u s₄. WordDone free calls first.memory.env S w u s₄ × (way v ≡ way u)) Done
        (passed v s₃.left (memory s₃.store first.memory.env)) (run v s₃)
        (λ w. binding_passed (way v) (cell_of array) calls x next w) ends
        (passes_same n few S b ρ k ps y z names news (pred (Γ x)) t claim lt d fit scoped start rs B
        (R' ++ in_progress k v) array (way v) count 0 v refl s₃ first.memory.env
        (agrees_kept calls env first.memory.env ρ S g q.kept)
        (framed_kept q.kept framed) q.levels)
        (λ w s₄ z. ends_same free calls env ρ S b g framed x new next goal (jumps t start rs ∙ ge) _ w s₄
        (word_kept free calls env first.memory.env S S (λ o j. j) q.kept _ w s₄ z.0) k (pred (Γ x)) array
        (way v) z.1)))
      where
        first : Ran
        first = carry_first k (pred (Γ x)) ws m (memory s.store env)

    pub loop_same : Rel free Done
        (loop_line (tree_on n C c calls) c calls x k y z (map coded us) at s.left (memory s.store env))
        (work_line callee β Γ (K.loop x k ps us t) A R ρ s)
    unfolding loop_line work_line onward with_left elements_of M.with_store
    loop_same =
        rel_step free Done s (memory s.store env)
        (λ m. loop_worked (tree_on n C c calls) c calls x k y z start m (memory s.store env)
        (map (word_of calls env) (map coded us)))
        (λ _ s₁. onward (λ vs s₂. onward (λ v s₃. onward ends
        (passes (work_pass k (pred (Γ x)) (λ vs. work callee β Γ t B (R' ++ in_progress k v) (M.binding ps vs ρ)) array)
        v (tabulate 0 (length vs) (λ i. i)) s₃)) (carried_first k R' (pred (Γ x)) ws s₂)) (elements_of array s₁))
        levels (λ m. rw (
          coded_words calls env ρ S g us known,
          let z : element_depth c.table calls x env ≡ pred (Γ x) =
              ap (λ (h : ℕ). depth_in c.table h x - 1) framed.function
              ∙ ap (λ (y : ℕ). y - 1) (depths x new.small) ∙ sub-one (Γ x) in z,
        )
        (after_first m (M.with_store (with_left s m) s.store (touching s.store (cell_of array))) refl refl
        (levels_touched levels s.store (cell_of array))))
