-- The passes of two loops beside each other: all of them by one, and one by its step, its element and its tree.
use Rattle.prelude.specs.Kit.{ℕ, ◌≤◌, ◌+◌, ◌<◌, suc, zero, arith, ◌≡◌, refl, ◌∙◌, ap, subst, List, [], ◌++◌, ℤ, pos}
use Rattle.prelude.specs.Kit.{length, get_or}
use Rattle.semantics.specs.Basics.{tabulate, occurrences, updated}
use Rattle.semantics.specs.Outcome.{Run, done, onward, ◌>>=◌, ◌>>◌, passes}
use Rattle.semantics.specs.Value.{Value, num, items}
use Rattle.semantics.specs.Code.{Tree}
use Rattle.semantics.specs.Live.{Set}
use Rattle.semantics.specs.Annotate.{NameDepths}
use Rattle.semantics.specs.Meaning.{Env}
use Rattle.semantics.specs.Machine.{State, Frame, Work, Routine, Program, with_store, with_left, step, touching}
use Rattle.semantics.specs.Machine.{elements_of, work}
use Rattle.semantics.specs.Store.{cell_of}
use Rattle.laws.specs.Lists.{◌⊆◌, occurrences_append}
use Rattle.laws.specs.Updates.{updated_there}
use Rattle.discipline.proofs.store.Invariant.{StandsFor}
use Rattle.discipline.proofs.store.Kept.{keeps_self}
use Rattle.discipline.proofs.machine.Images.{apart}
use Rattle.discipline.proofs.machine.Frames.{Setting, Ended, own}
use Rattle.discipline.proofs.machine.Elements.{words_of}
use Rattle.discipline.proofs.machine.Situations.{touch_together}
use Rattle.discipline.proofs.machine.Binding.{pending_situation, ended_back}
use Rattle.discipline.proofs.machine.Size.{tree_adds}
use Rattle.discipline.proofs.machine.Rules.{TreeRules, Fresh}
use Rattle.discipline.proofs.machine.Claims.{TreeClaim}
use Rattle.discipline.proofs.machine.Passes.{Item, element_at_pass}
use Rattle.leaner.proofs.Runs.{Race, Twins, both, twins_bind, after_step}
use Rattle.leaner.proofs.Beside.{Around, Here, here_stepped, Known, known, Same}
use Rattle.leaner.proofs.Claims.{first_setting, leaner_setting, Before, TreeEnded, TreeTwins}
use Rattle.leaner.proofs.Binding.{bound_framed}
use Rattle.leaner.proofs.Reading.{touched_tied}

-- ---- all passes

module _ (r : Race) (Carried : ℕ → ℤ → State → ℤ → State → Type 0) (f f' : ℤ → ℕ → Run State ℤ) where
  rest_twins : (k i : ℕ) (c c' : ℤ) (s s' : State) →
      ((j : ℕ) (d : ℤ) (t : State) (d' : ℤ) (t' : State) → i ≤ j → j < i + k → Carried j d t d' t' →
      Twins r (Carried (suc j)) (f d j t) (f' d' j t')) → Carried i c s c' s' →
      Twins r (Carried (i + k)) (passes f c (tabulate i k (λ j. j)) s) (passes f' c' (tabulate i k (λ j. j)) s')
  unfolding passes tabulate
  rest_twins zero i c c' s s' pass q = let e : i ≡ i + 0 = omega arith in
      both (subst (λ (j : ℕ). Carried j c s c' s') e q)
  rest_twins (suc k) i c c' s s' pass q = let e : suc i + k ≡ i + suc k = omega arith in
      twins_bind r (pass i c s c' s' (omega arith) (omega arith) q)
      (λ d t d' t' _ _ h. subst (λ (j : ℕ). Twins r (Carried j) (passes f d (tabulate (suc i) k (λ j. j)) t)
      (passes f' d' (tabulate (suc i) k (λ j. j)) t')) e
      (rest_twins k (suc i) d d' t t' (λ j b u b' u' low high z. pass j b u b' u' (omega arith) (omega arith) z) h))

  pub passes_twins : (k : ℕ) (c c' : ℤ) (s s' : State) →
      ((j : ℕ) (d : ℤ) (t : State) (d' : ℤ) (t' : State) → j < k → Carried j d t d' t' →
      Twins r (Carried (suc j)) (f d j t) (f' d' j t')) → Carried 0 c s c' s' →
      Twins r (Carried k) (passes f c (tabulate 0 k (λ j. j)) s) (passes f' c' (tabulate 0 k (λ j. j)) s')
  passes_twins k c c' s s' pass q = let e : 0 + k ≡ k = omega arith in
      subst (λ (j : ℕ). Twins r (Carried j) (passes f c (tabulate 0 k (λ j. j)) s)
      (passes f' c' (tabulate 0 k (λ j. j)) s')) e
      (rest_twins k 0 c c' s s' (λ j d t d' t' low high z. pass j d t d' t' (omega arith) z) q)

-- ---- the element of a pass

-- the state before a pass's tree
abbrev pub at_element : State → ℕ → ℤ → State
at_element s j w = with_store (with_left s j) s.store (touching s.store (cell_of w))

-- the element's name is pending
pub here_element : {C : Setting} {b : Around} {H : List ℕ} {ρ : Frame} {n : ℕ} {s : State} {v : Value} (z i j : ℕ)
    (w : ℤ) → Here C b H [] ρ n s → StandsFor s.store (suc (C.depths z)) w v → i < length (items v) →
    occurrences z b.lent ≡ 0 → occurrences z H ≡ 0 → step s ≡ done tt (with_left s j) →
    Here C b H (own C z) (updated ρ z (get_or (words_of s.store w) i (pos 0))) n (at_element s j w)
unfolding with_store with_left
here_element {C} {b} {H} {ρ} {n} {s} {v} z i j w q array within new_lent new_held e = record {
  values = updated q.values z (get_or (items v) i (num (pos 0)));
  meter = stepped.meter;
  together = touch_together (cell_of w) s.store q.situation.invariant item.used refl refl stepped.together;
  situation = pending_situation C q.situation new_lent new_held item.stands item.named;
}
  where
    item : Item s.store (C.depths z) w v i
    item = element_at_pass i q.situation.invariant array within

    stepped : Here C b H [] ρ n (with_left s j)
    stepped = here_stepped q e

-- what is known after its tree, in the frame before it
tree_known : {C : Setting} (trees : (t : Tree) → TreeClaim C t) {t : Tree} {S A : Set} {H I : List ℕ} {b : Around}
    {ρ : Frame} {δ : Env} {k e : ℕ} {s₁ : State} {x : ℤ} (s : State) (z i j : ℕ) (w : ℤ) (v : Value) →
    TreeRules C t b.lent S A H (own C z) I e → occurrences z I ≡ 0 →
    (q : Here C b H (own C z) (updated ρ z (get_or (words_of s.store w) i (pos 0))) (tree_adds t + k)
    (at_element s j w)) → q.values ≡ updated δ z v → C.need ≤ k →
    work C.callee C.program.borrowing C.depths t A b.roots
    (updated ρ z (get_or (words_of s.store w) i (pos 0))) (at_element s j w) ≡ done x s₁ →
    Known (Ended C e s.store b.aside b.others I ρ δ k) x s₁
unfolding with_store with_left
tree_known {C} trees {t} {S} {A} {H} {I} {b} {ρ} {δ} {k} {e} {s₁} {x} s z i j w v rules new q is need g = record {
  value = done_so.value;
  meter = done_so.meter;
  holds = ended_back C (λ y m. updated_there ρ z w' y (apart z y I new m))
      (λ y m. ap (λ (δ' : Env). δ' y) is ∙ updated_there δ z v y (apart z y I new m))
      (keeps_self s.store (b.aside ++ b.others)) done_so.holds;
}
  where
    w' : ℤ
    w' = get_or (words_of s.store w) i (pos 0)

    done_so : Known (Ended C e s.store b.aside b.others I (updated ρ z w') q.values k) x s₁
    done_so = known (trees t b.lent S A H (own C z) I e rules b.aside b.others b.roots (updated ρ z w')
        q.values k (at_element s j w) q.meter q.together q.situation need) g

-- ---- one pass

module _ (r : Race) (p : Program) (rs : List Routine) (n : ℕ) (Γ : NameDepths) where
  abbrev C : Setting
  C = first_setting r p n Γ

  abbrev C' : Setting
  C' = leaner_setting r p rs n Γ

  -- the element's name is z; H is held before the trees, which leave I
  module _ (trees : (t : Tree) → TreeClaim C t) (trees' : (t : Tree) → TreeClaim C' t) {t t' : Tree} {S S' A A' : Set}
      {H H' I I' E : List ℕ} {π : ℕ → ℕ} {b b' : Around} {ρ ρ' : Frame} {k k' e : ℕ} {s s' : State} (z : ℕ)
      (claim : TreeTwins r p rs n Γ [] t t') (rules : TreeRules C t b.lent S A H (own C z) I e)
      (rules' : TreeRules C' t' b'.lent S' A' H' (own C z) I' e) (fewer : I' ⊆ I) (new : Fresh z b.lent H I)
      (new' : Fresh z b'.lent H' I')
      (q : Before r p rs n Γ [] E π b b' H H' [] [] ρ ρ' (tree_adds t + k) (tree_adds t' + k') s s')
      (need : C.need ≤ k) (need' : C'.need ≤ k') where
    pub twin_pass : {Q : ℤ → State → ℤ → State → Type 0} (w w' : ℤ) (v v' : Value) (i : ℕ) →
        StandsFor s.store (suc (Γ z)) w v → StandsFor s'.store (suc (Γ z)) w' v' → i < length (items v) →
        i < length (items v') →
        Same (Γ z) π (get_or (words_of s.store w) i (pos 0)) (get_or (words_of s'.store w') i (pos 0)) →
        (finish finish' : ℤ → ℤ → Work ℤ) →
        ((x : ℤ) (s₁ : State) (x' : ℤ) (s₁' : State) → TreeEnded r p rs n Γ e E π b' I' ρ ρ' x s₁ x' s₁' →
        Known (Ended C e s.store b.aside b.others I ρ q.first.values k) x s₁ →
        Known (Ended C' e s'.store b'.aside b'.others I' ρ' q.leaner.values k') x' s₁' →
        Twins r Q (finish (get_or (words_of s.store w) i (pos 0)) x s₁)
        (finish' (get_or (words_of s'.store w') i (pos 0)) x' s₁')) →
        Twins r Q
        ((do
          step
          ws ← elements_of w
          x ← work C.callee p.borrowing Γ t A b.roots (updated ρ z (get_or ws i (pos 0)))
          finish (get_or ws i (pos 0)) x) s)
        ((do
          step
          ws ← elements_of w'
          x ← work C'.callee p.borrowing Γ t' A' b'.roots (updated ρ' z (get_or ws i (pos 0)))
          finish' (get_or ws i (pos 0)) x) s')
    unfolding elements_of onward with_store with_left updated here_element
    twin_pass w w' v v' i array array' within within' same finish finish' next =
        after_step r _ _ q.tied (λ j j' f f' tied.
        twins_bind r (claim S S' A A' H H' (own C z) (own C z) I I' e E π b b' _ _ k k' _ _ rules rules' fewer record {
          first = here_element z i j w q.first array within new.lent new.before f;
          leaner = here_element z i j' w' q.leaner array' within' new'.lent new'.before f';
          tied = touched_tied (cell_of w) (cell_of w') tied;
          framed = bound_framed C (b'.lent ++ H') z _ _ q.framed
              (omega (arith, new'.lent, new'.before, occurrences_append z b'.lent H')) same (λ y h. h);
          images = q.images;
          owes = q.owes;
          exempt = q.exempt;
        } need need')
        (λ x s₁ x' s₁' g g' h. next x s₁ x' s₁' record {
          cells = h.cells;
          tied = h.tied;
          result = h.result;
          words = λ y m. rw (
            ← updated_there ρ z (get_or (words_of s.store w) i (pos 0)) y (apart z y I new.after (fewer y m)),
            ← updated_there ρ' z (get_or (words_of s'.store w') i (pos 0)) y (apart z y I' new'.after m),
          ) (h.words y m);
          stays = h.stays;
        }
        (tree_known trees s z i j w _ rules new.after
        (here_element z i j w q.first array within new.lent new.before f) refl need g)
        (tree_known trees' s' z i j' w' _ rules' new'.after
        (here_element z i j' w' q.leaner array' within' new'.lent new'.before f') refl need' g')))
