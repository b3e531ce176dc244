-- The line of a reduce that both runs work alike.
use Rattle.prelude.specs.Kit.{ℕ, ◌≤◌, ◌+◌, ◌<◌, suc, pred, arith, true, ◌≡◌, refl, ◌∙◌, sym, subst, inl, inr, List, []}
use Rattle.prelude.specs.Kit.{◌∷◌, ◌++◌, ℤ, length}
use Rattle.semantics.specs.Basics.{tabulate, updated}
use Rattle.semantics.specs.Outcome.{onward, ◌>>=◌, ◌>>◌, give, require, passes}
use Rattle.semantics.specs.Value.{items}
use Rattle.semantics.specs.Kinds.{reducing}
use Rattle.semantics.specs.Code.{Atom, loop, Tree}
use Rattle.semantics.specs.Live.{Set, ◌∪◌, just, among, after_pass}
use Rattle.semantics.specs.Annotate.{NameDepths, atom_depth}
use Rattle.semantics.specs.Machine.{State, Frame, Routine, Program, word, with_store, with_left, held, work}
use Rattle.semantics.specs.Machine.{work_line, work_pass, elements_of, binding}
use Rattle.semantics.specs.Machine as Machine
use Rattle.semantics.specs.Store.{cell, cell_of}
use Rattle.laws.specs.Lists.{◌⊆◌, occurrences_append}
use Rattle.laws.specs.Updates.{updated_there}
use Rattle.semantics.specs.Plain.{value}
use Rattle.discipline.proofs.store.Invariant.{StandsFor}
use Rattle.discipline.proofs.store.Counting.{append_cases, in_append_left, in_append_right}
use Rattle.discipline.proofs.machine.Discipline.{less, holds_after}
use Rattle.discipline.proofs.machine.Spending.{less_in}
use Rattle.discipline.proofs.machine.Images.{apart, without_middle}
use Rattle.discipline.proofs.machine.Frames.{hold, Setting, Ended, given, own}
use Rattle.discipline.proofs.machine.Standing.{array_cell, name_held}
use Rattle.discipline.proofs.machine.Elements.{words_of, array_length}
use Rattle.discipline.proofs.machine.Binding.{ended_depth}
use Rattle.discipline.proofs.machine.Size.{tree_adds, line_adds}
use Rattle.discipline.proofs.machine.Rules.{LineRules, TreeRules, loop_fresh}
use Rattle.discipline.proofs.machine.Claims.{TreeClaim}
use Rattle.discipline.proofs.machine.Passes.{outer, lent_array, lent_cell, kept_aside}
use Rattle.discipline.proofs.machine.Sites.{site_reads}
use Rattle.discipline.proofs.machine.Reducing.{site, start_depth, tree_depth, result_depth, tree_rules, new_carried}
use Rattle.discipline.proofs.machine.Reducing.{new_element, Bound, bound, first_carried, given_on, lent_before}
use Rattle.leaner.proofs.Leaner.{matching_at}
use Rattle.leaner.proofs.Runs.{Race, Starts, Tied, Twins, both, twins_bind, after_step}
use Rattle.leaner.proofs.Beside.{Around, Known, Same, Framed, framed_fewer, Images, images_stay}
use Rattle.leaner.proofs.Beside.{Stays, Owes, atom_same}
use Rattle.leaner.proofs.Owing.{owes_less, owes_more, owes_in}
use Rattle.leaner.proofs.Claims.{first_setting, leaner_setting, Before, before_less, TreeEnded, LineEnded}
use Rattle.leaner.proofs.Claims.{TreeTwins, LineTwins}
use Rattle.leaner.proofs.Binding.{bound_framed, known_left, behind, line_bound}
use Rattle.leaner.proofs.Reading.{array_words, matching_same}
use Rattle.leaner.proofs.Passes.{twin_pass, passes_twins}
use Rattle.leaner.proofs.Filled.{read_before}
use Rattle.leaner.proofs.Lending.{around_passes, passes_owe, passes_images, passes_back}

-- what is held still was held before
less_lent : (B H l : List ℕ) → (B ++ less l H) ⊆ (B ++ H)
less_lent B H l y h = elim (append_cases y B (less l H) h) [
  | inl g ↦ in_append_left y B H g
  | inr g ↦ in_append_right y B H (less_in l H y g)
]

module _ {r : Race} (starts : Starts r) (p : Program) (rs : List Routine) (n : ℕ) (Γ : NameDepths) where
  abbrev C : Setting
  C = first_setting r p n Γ

  abbrev C' : Setting
  C' = leaner_setting r p rs n Γ

  -- a pass names the running value y and the element z; the start is o and the array v
  module _ (trees : (t : Tree) → TreeClaim C t) (trees' : (t : Tree) → TreeClaim C' t)
      {t t' : Tree} (claim : TreeTwins r p rs n Γ [] t t') {x y z : ℕ} {o v : Atom} {S S' A A' : Set}
      {H H' P P' Δ Δ' X E : List ℕ} {π : ℕ → ℕ} {a a' : Around} {ρ ρ' : Frame} {k k' : ℕ} {s s' : State}
      (rules : LineRules C (loop x reducing (y ∷ (z ∷ [])) (o ∷ (v ∷ [])) t) a.lent S A H P Δ)
      (rules' : LineRules C' (loop x reducing (y ∷ (z ∷ [])) (o ∷ (v ∷ [])) t') a'.lent S' A' H' P' Δ')
      (need : C.need ≤ k) (need' : C'.need ≤ k')
      (q : Before r p rs n Γ X E π a a' H H' P P' ρ ρ' (suc (suc (tree_adds t + k)))
      (suc (suc (tree_adds t' + k'))) s s')
    where
      abbrev d : ℕ
      d = Γ y

      abbrev spends : List ℕ
      spends = given C (o ∷ [])

      -- the holds once the start is spent
      abbrev K : List ℕ
      K = less spends H

      abbrev K' : List ℕ
      K' = less spends H'

      abbrev I : List ℕ
      I = outer C v a.lent K

      abbrev I' : List ℕ
      I' = outer C' v a'.lent K'

      abbrev b : Around
      b = around_passes C v K ρ
          ((a.roots ++ held Γ (among (v ∷ []) (after_pass x (y ∷ (z ∷ [])) t A)) ρ) ++ []) a

      abbrev b' : Around
      b' = around_passes C' v K' ρ'
          ((a'.roots ++ held Γ (among (v ∷ []) (after_pass x (y ∷ (z ∷ [])) t' A')) ρ') ++ []) a'

      reads' : given C (v ∷ []) ⊆ (a'.lent ++ K')
      reads' = site_reads C' (site C' rules')

      owes : Owes X K K'
      owes = owes_less X spends H H' rules'.holds.0 q.owes

      passing_owes : Owes [] I I'
      passing_owes = passes_owe C X a a' K K' v owes q.images.lent

      known : (a'.lent ++ K') ⊆ (P' ++ (a'.lent ++ H'))
      known = known_left P' a'.lent H' K' (less_in spends H')

      images : Images π b b'
      images = passes_images C a a' K K' v b.roots b'.roots q.images q.framed (λ i h. known i (reads' i h))
          (λ i h. (q.first.situation.lent i h).kept)

      -- between two passes
      record Reduces (i : ℕ) (w : ℤ) (t₁ : State) (w' : ℤ) (t₁' : State) : Type 0 where
        pub first : Known (Ended C d s.store a.aside b.others I ρ q.first.values (tree_adds t + k)) w t₁
        pub leaner : Known (Ended C' d s'.store a'.aside b'.others I' ρ' q.leaner.values
            (tree_adds t' + k')) w' t₁'
        pub cells : ℕ → ℕ
        pub tied : Tied r E cells t₁ t₁'
        pub result : Same d cells w w'
        pub framed : Framed Γ cells ρ ρ' (b'.lent ++ I')
        pub stays : Stays π cells (b'.aside ++ b'.others)

      -- ---- a pass

      module _ {i : ℕ} {w : ℤ} {t₁ : State} {w' : ℤ} {t₁' : State} (f : Reduces i w t₁ w' t₁') where
        now : Bound C rules k q.first.situation w f.first.value t₁.store
        now = bound C rules k q.first.situation f.first.holds

        now' : Bound C' rules' k' q.leaner.situation w' f.leaner.value t₁'.store
        now' = bound C' rules' k' q.leaner.situation f.leaner.holds

        unfoldable pass_before : Before r p rs n Γ [] E f.cells b b' (own C y ++ I) (own C y ++ I') [] []
            (updated ρ y w) (updated ρ' y w') (tree_adds t + k) (tree_adds t' + k') t₁ t₁'
        pass_before = record {
          first = record {
            values = updated q.first.values y f.first.value;
            meter = f.first.meter;
            together = f.first.holds.answered.together;
            situation = now.situation;
          };
          leaner = record {
            values = updated q.leaner.values y f.leaner.value;
            meter = f.leaner.meter;
            together = f.leaner.holds.answered.together;
            situation = now'.situation;
          };
          tied = f.tied;
          framed = bound_framed C (b'.lent ++ I') y w w' f.framed
              (omega (
                arith,
                (new_carried C' rules').lent,
                (new_carried C' rules').before,
                occurrences_append y b'.lent I',
              )) f.result (behind b'.lent (own C y) I');
          images = images_stay f.stays images;
          owes = owes_more [] (own C y) I I' passing_owes;
          exempt = q.exempt;
        }

        -- what the trees gave is carried on
        goes_on : {u : ℤ} {s₁ : State} {u' : ℤ} {s₁' : State} →
            TreeEnded r p rs n Γ d E f.cells b' I' (updated ρ y w) (updated ρ' y w') u s₁ u' s₁' →
            Known (Ended C d t₁.store a.aside b.others I (updated ρ y w)
            (updated q.first.values y f.first.value) k) u s₁ →
            Known (Ended C' d t₁'.store a'.aside b'.others I' (updated ρ' y w')
            (updated q.leaner.values y f.leaner.value) k') u' s₁' → Reduces (suc i) u s₁ u' s₁'
        goes_on h ended ended' = record {
          first = record {
            value = ended.value;
            meter = ended.meter;
            holds = given_on C rules k q.first.situation now (ended_depth C (sym (tree_depth C rules))
                ended.holds);
          };
          leaner = record {
            value = ended'.value;
            meter = ended'.meter;
            holds = given_on C' rules' k' q.leaner.situation now'
                (ended_depth C' (sym (tree_depth C' rules')) ended'.holds);
          };
          cells = h.cells;
          tied = h.tied;
          result = h.result;
          framed = record {
            numbers = f.framed.numbers;
            cells = λ m j. elim (append_cases m b'.lent I' j) [
              | inl g ↦ f.framed.cells m j ∙ sym (h.stays (cell_of (ρ' m))
                  (in_append_right (cell_of (ρ' m)) b'.aside b'.others
                  (lent_before C' rules' k' q.leaner.situation m g).kept))
              | inr g ↦ rw (
                ← updated_there ρ y w m (apart y m I (new_carried C rules).after (owes_in [] I I' passing_owes m g)),
                ← updated_there ρ' y w' m (apart y m I' (new_carried C' rules').after g),
              ) (h.words m g)
            ];
          };
          stays = λ c g. h.stays c g ∙ f.stays c g;
        }

      reduce_pass : (i : ℕ) (w : ℤ) (t₁ : State) (w' : ℤ) (t₁' : State) →
          i < length (items (value q.leaner.values v)) → i < length (items (value q.first.values v)) →
          Reduces i w t₁ w' t₁' → Twins r (Reduces (suc i))
          (work_pass reducing (pred (Γ x)) (λ us. work C.callee p.borrowing Γ t (after_pass x (y ∷ (z ∷ [])) t A)
          b.roots (binding (y ∷ (z ∷ [])) us ρ)) (word ρ v) w i t₁)
          (work_pass reducing (pred (Γ x)) (λ us. work C'.callee p.borrowing Γ t'
          (after_pass x (y ∷ (z ∷ [])) t' A') b'.roots (binding (y ∷ (z ∷ [])) us ρ')) (word ρ' v) w' i t₁')
      unfolding work_pass onward require pass_before
      reduce_pass i w t₁ w' t₁' within' within f =
          twin_pass r p rs n Γ trees trees' z claim
          (subst (λ (e : ℕ). TreeRules C t b.lent (S ∪ just (y ∷ (z ∷ []))) (after_pass x (y ∷ (z ∷ [])) t A)
          (own C y ++ I) (own C z) I e) (tree_depth C rules) (tree_rules C rules))
          (subst (λ (e : ℕ). TreeRules C' t' b'.lent (S' ∪ just (y ∷ (z ∷ []))) (after_pass x (y ∷ (z ∷ [])) t' A')
          (own C y ++ I') (own C z) I' e) (tree_depth C' rules') (tree_rules C' rules'))
          (owes_in [] I I' passing_owes) (new_element C rules) (new_element C' rules') (pass_before f) need need'
          (word ρ v) (word ρ' v) (value q.first.values v) (value q.leaner.values v) i (now f).array
          (now' f).array within within'
          (matching_same (matching_at i (omega (arith, within', array_length (now' f).array))
          (array_words (word ρ v) (word ρ' v) f.tied.stores (now' f).situation.invariant q.exempt
          (now' f).array
          ((atom_same C f.framed v (λ m g. in_append_left m b'.lent I' (in_append_left m (given C (v ∷ []))
          a'.lent g))).cell deep)
          (in_append_right (cell_of (word ρ' v)) (hold (updated ρ' y w') (own C y ++ I')) b'.others
          (lent_cell C' v a'.lent K' (lent_before C' rules' k' q.leaner.situation) deep)))))
          (λ e u. require true 28 >> Machine.carried_on reducing (pred (Γ x)) (word ρ v) i w e u)
          (λ e u. require true 28 >> Machine.carried_on reducing (pred (Γ x)) (word ρ' v) i w' e u)
          (λ u s₁ u' s₁' h ended ended'. both (goes_on f h ended ended'))
        where
          deep : 0 < atom_depth Γ v
          deep = rules.fits.0.deep

      -- ---- the line, once the array is read

      start_same : Same d π (word ρ o) (word ρ' o)
      start_same = subst (λ (e : ℕ). Same e π (word ρ o) (word ρ' o)) (start_depth C rules)
          (atom_same C q.framed o (λ m h. in_append_right m P' (a'.lent ++ H') (in_append_right m a'.lent H'
          (omega (arith, h, rules'.holds.0 m)))))

      begun : Reduces 0 (word ρ o) s (word ρ' o) s'
      begun = record {
        first = record {
          value = value q.first.values o;
          meter = q.first.meter;
          holds = first_carried C rules k q.first.situation refl q.first.together;
        };
        leaner = record {
          value = value q.leaner.values o;
          meter = q.leaner.meter;
          holds = first_carried C' rules' k' q.leaner.situation refl q.leaner.together;
        };
        cells = π;
        tied = q.tied;
        result = start_same;
        framed = framed_fewer (P' ++ (a'.lent ++ H')) (b'.lent ++ I') (λ m h. elim (append_cases m b'.lent I' h) [
          | inl g ↦ elim (append_cases m (given C (v ∷ [])) a'.lent g) [
            | inl j ↦ known m (reads' m j)
            | inr j ↦ known m (in_append_left m a'.lent K' j)
          ]
          | inr g ↦ known m (in_append_right m a'.lent K' (less_in (kept_aside C' v a'.lent K') K' m g))
        ]) q.framed;
        stays = λ c h. refl;
      }

      array : StandsFor s.store (suc (Γ z)) (word ρ v) (value q.first.values v)
      array = lent_array C v a.lent K q.first.situation.numbers (lent_before C rules k q.first.situation)
          (site C rules).array

      array' : StandsFor s'.store (suc (Γ z)) (word ρ' v) (value q.leaner.values v)
      array' = lent_array C' v a'.lent K' q.leaner.situation.numbers
          (lent_before C' rules' k' q.leaner.situation) (site C' rules').array

      pub reduced : Twins r (LineEnded r p rs n Γ E π a' (own C x ++ K') [])
          (((passes (work_pass reducing (pred (Γ x)) (λ us. work C.callee p.borrowing Γ t
          (after_pass x (y ∷ (z ∷ [])) t A) b.roots (binding (y ∷ (z ∷ [])) us ρ)) (word ρ v)) (word ρ o)
          (tabulate 0 (length (words_of s.store (word ρ v))) (λ i. i))) >>= λ w. give (updated ρ x w)) s)
          (((passes (work_pass reducing (pred (Γ x)) (λ us. work C'.callee p.borrowing Γ t'
          (after_pass x (y ∷ (z ∷ [])) t' A') b'.roots (binding (y ∷ (z ∷ [])) us ρ')) (word ρ' v)) (word ρ' o)
          (tabulate 0 (length (words_of s'.store (word ρ' v))) (λ i. i))) >>= λ w. give (updated ρ' x w)) s')
      reduced = rw size
          (twins_bind r (passes_twins r Reduces _ _ (length (words_of s'.store (word ρ' v))) (word ρ o) (word ρ' o)
          s s' (λ i w t₁ w' t₁' within f. reduce_pass i w t₁ w' t₁' (omega (arith, within, array_length array'))
          (omega (arith, within, array_length array, size)) f) begun)
          (λ w t₁ w' t₁' _ _ f. both (line_bound r p rs n Γ x (loop_fresh C' rules')
          (subst (λ (e : ℕ). Same e f.cells w w') (result_depth C rules) f.result)
          (framed_fewer (b'.lent ++ I') (a'.lent ++ K') (passes_back C' a'.lent K' v reads') f.framed)
          (λ c h. f.stays c (without_middle a'.aside (hold ρ' (kept_aside C' v a'.lent K')) a'.others c h))
          f.tied)))
        where
          size : length (words_of s.store (word ρ v)) ≡ length (words_of s'.store (word ρ' v))
          size = (array_words (word ρ v) (word ρ' v) q.tied.stores q.leaner.situation.invariant q.exempt
              array' ((atom_same C q.framed v (λ m g. known m (reads' m g))).cell rules.fits.0.deep)
              (array_cell C' ρ' (hold ρ' H' ++ a'.others) v rules.fits.0.deep
              (λ m h. name_held C' q.leaner.situation m (less_lent a'.lent H' spends m (reads' m h))))).size

  module _ (trees : (t : Tree) → TreeClaim C t) (trees' : (t : Tree) → TreeClaim C' t) where
    pub reduce_twins : (X : List ℕ) (x y z : ℕ) (o v : Atom) (t t' : Tree) → TreeTwins r p rs n Γ [] t t' →
        LineTwins r p rs n Γ X (loop x reducing (y ∷ (z ∷ [])) (o ∷ (v ∷ [])) t)
        (loop x reducing (y ∷ (z ∷ [])) (o ∷ (v ∷ [])) t')
    unfolding work_line line_adds holds_after onward elements_of with_store with_left
    reduce_twins X x y z o v t t' claim S S' A A' H H' P P' Δ Δ' E π a a' ρ ρ' k k' s s' rules rules' q need need' =
        after_step r _ _ q.tied (λ j j' f f' tied.
        reduced trees trees' claim rules rules' need need' (read_before starts p rs n Γ v
        (λ m h. less_lent a.lent H (given C (o ∷ [])) m (site_reads C (site C rules) m h))
        (λ m h. less_lent a'.lent H' (given C (o ∷ [])) m (site_reads C' (site C' rules') m h)) q' (Γ z)
        (site C rules).array j j' f f' tied))
      where
        q' : Before r p rs n Γ X E π a a' H H' P P' ρ ρ' (suc (suc (tree_adds t + k)))
            (suc (suc (tree_adds t' + k'))) s s'
        q' = before_less r p rs n Γ (omega arith) (omega arith) q
