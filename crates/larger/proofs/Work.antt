-- All work of the machine ends the same with further cells and steps: leaves, loops, trees, calls, the delivery.
use Rattle.prelude.specs.Kit.{ℕ, suc, zero, sym, subst, List, [], ◌∷◌, map, ℤ, pos, nat_abs, length, get_or}
use Rattle.std.proofs.Math.ListN as List
use Rattle.semantics.specs.Outcome.{done, ◌>>=◌, ◌>>◌}
use Rattle.semantics.specs.Basics.{tabulate, updated}
use Rattle.semantics.specs.Number.{exact, fits, inside, is_zero, is_answer}
use Rattle.semantics.specs.Kinds.{Leaf, operation, call, literal, index, length_of, iota, replicate, Loop, mapping}
use Rattle.semantics.specs.Kinds.{filtering, reducing, rewriting, Borrowing}
use Rattle.semantics.specs.Code.{Line, leaf, if_else, loop, retain, release, Tree, end, line}
use Rattle.semantics.specs.Live.{Set, live, after_branch, after_pass, empty}
use Rattle.semantics.specs.Annotate.{NameDepths}
use Rattle.semantics.specs.Store.{named_by, with_totals}
use Rattle.semantics.specs.Machine.{Work, Frame, word, Callee, argument, is_count, work_leaf, carried_first}
use Rattle.semantics.specs.Machine.{pass_words, taken_by, in_place, carried_on, loop_ends, work_pass, binding}
use Rattle.semantics.specs.Machine.{element_depth, looped_over, work, work_line, Program, routine_of, framed}
use Rattle.semantics.specs.Machine.{machine, acquire, if_array, retain_word, release_word, with_store, delivery}
use Rattle.larger.proofs.Extended.{same_totals}
use Rattle.larger.proofs.Runs.{SameEnd, Untouched, Steady, steady_give, steady_halt, steady_require}
use Rattle.larger.proofs.Runs.{steady_bind, steady_cond, steady_passes, steady_step, steady_elements, steady_alone}
use Rattle.larger.proofs.Runs.{steady_retain, steady_release, steady_append, steady_overwrite, steady_totals}
use Rattle.larger.proofs.Runs.{steady_acquire, steady_if_array, steady_retains}

module _ (cells steps : ℕ) where
  -- work that ends the same with so many further cells and steps
  abbrev Same : {A : Type 0} → Work A → Type 0
  Same m = Steady cells steps m

  abbrev pub SteadyCallee : Callee → Type 0
  SteadyCallee callee = (R : List ℕ) (f : ℕ) (ws : List ℤ) → Same (callee R f ws)

  -- ---- leaves and loops

  steady_leaf : (callee : Callee) → SteadyCallee callee → (S C : List ℕ) (d : ℕ) (l : Leaf) (ws : List ℤ) →
      Same (work_leaf callee S C d l ws)
  unfolding work_leaf
  steady_leaf callee calls S C d (operation o) ws = steady_bind
      (steady_require (fits (exact o (argument ws 0) (argument ws 1))) 24)
      (λ _. steady_give (exact o (argument ws 0) (argument ws 1)))
  steady_leaf callee calls S C d (call f) ws = calls C f ws
  steady_leaf callee calls S C d (literal e) ws = steady_acquire S e ws
  steady_leaf callee calls S C d index ws = steady_bind (steady_elements (argument ws 0))
      (λ vs. steady_bind (steady_require (inside (argument ws 1) (length vs)) 23)
      (λ _. steady_give (get_or vs (nat_abs (argument ws 1)) (pos 0))))
  steady_leaf callee calls S C d length_of ws = steady_bind (steady_elements (argument ws 0))
      (λ vs. steady_give (pos (length vs)))
  steady_leaf callee calls S C d iota ws = steady_bind (steady_require (is_count (argument ws 0)) 26)
      (λ _. steady_acquire S 0 (tabulate 0 (nat_abs (argument ws 0)) (λ i. pos i)))
  steady_leaf callee calls S C d replicate ws = steady_bind (steady_require (is_count (argument ws 0)) 26)
      (λ _. steady_bind (steady_acquire S d (List.replicate (nat_abs (argument ws 0)) (argument ws 1)))
      (λ c. steady_bind (steady_if_array d (steady_retains (nat_abs (argument ws 0)) (argument ws 1)))
      (λ _. steady_give c)))

  steady_first : (k : Loop) (R : List ℕ) (d : ℕ) (ws : List ℤ) → Same (carried_first k R d ws)
  steady_first mapping R d ws = steady_acquire R d []
  steady_first filtering R d ws = steady_acquire R d []
  steady_first reducing R d ws = steady_give (argument ws 0)
  steady_first rewriting R d ws = steady_bind (steady_alone (argument ws 0))
      (λ alone. steady_cond alone (steady_give (argument ws 0)) (steady_acquire R d []))

  steady_on : (k : Loop) (d : ℕ) (a : ℤ) (i : ℕ) (c w r : ℤ) → Same (carried_on k d a i c w r)
  steady_on mapping d a i c w r = steady_bind (steady_append c r) (λ _. steady_give c)
  steady_on filtering d a i c w r = steady_cond (is_zero r) (steady_give c)
      (steady_bind (steady_if_array d (steady_retain w))
      (λ _. steady_bind (steady_append c w) (λ _. steady_give c)))
  steady_on reducing d a i c w r = steady_give r
  steady_on rewriting d a i c w r =
      steady_bind (steady_cond (in_place a c) (steady_overwrite c i r) (steady_append c r)) (λ _. steady_give c)

  steady_ends : (k : Loop) (a c : ℤ) → Same (loop_ends k a c)
  steady_ends mapping a c = steady_give tt
  steady_ends filtering a c = steady_give tt
  steady_ends reducing a c = steady_give tt
  steady_ends rewriting a c = steady_cond (in_place a c) (steady_give tt) (steady_release a)

  steady_pass : (k : Loop) (d : ℕ) (body : List ℤ → Work ℤ) → ((vs : List ℤ) → Same (body vs)) → (a c : ℤ) (i : ℕ) →
      Same (work_pass k d body a c i)
  unfolding work_pass
  steady_pass k d body each a c i = steady_bind steady_step
      (λ _. steady_bind (steady_elements a)
      (λ ws. steady_bind (each (pass_words k c (get_or ws i (pos 0))))
      (λ r. steady_bind (steady_require (taken_by k r) 28)
      (λ _. steady_on k d a i c (get_or ws i (pos 0)) r))))

  -- ---- trees

  module _ (callee : Callee) (calls : SteadyCallee callee) (B : Borrowing) (Γ : NameDepths) where
    mutual
      unfolding work work_line

      pub steady_tree : (t : Tree) (L : Set) (R : List ℕ) (ρ : Frame) → Same (work callee B Γ t L R ρ)
      steady_tree (end a) L R ρ = steady_give (word ρ a)
      steady_tree (line l t) L R ρ = steady_bind (steady_line l (live t L) R ρ) (λ ρ'. steady_tree t L R ρ')

      steady_line : (l : Line) (A : Set) (R : List ℕ) (ρ : Frame) → Same (work_line callee B Γ l A R ρ)
      steady_line (leaf x l us) A R ρ = steady_bind steady_step
          (λ _. steady_bind (steady_leaf callee calls _ _ _ l (map (word ρ) us))
          (λ w. steady_give (updated ρ x w)))
      steady_line (if_else x g t e) A R ρ = steady_bind steady_step
          (λ _. steady_bind (steady_require (is_answer (word ρ g)) 28)
          (λ _. steady_bind (steady_cond (is_zero (word ρ g))
          (steady_tree e (after_branch x A) R ρ) (steady_tree t (after_branch x A) R ρ))
          (λ w. steady_give (updated ρ x w))))
      steady_line (loop x k ps us t) A R ρ = steady_bind steady_step
          (λ _. steady_bind (steady_elements (looped_over k (map (word ρ) us)))
          (λ ws. steady_bind (steady_first k _ (element_depth Γ x) (map (word ρ) us))
          (λ c. steady_bind (steady_passes _ (λ b i. steady_pass k (element_depth Γ x) _
          (λ vs. steady_tree t (after_pass x ps t A) _ (binding ps vs ρ)) (looped_over k (map (word ρ) us)) b i)
          (tabulate 0 (length ws) (λ i. i)) c)
          (λ w. steady_bind (steady_ends k (looped_over k (map (word ρ) us)) w)
          (λ _. steady_give (updated ρ x w))))))
      steady_line (retain x) A R ρ = steady_bind (steady_retain (ρ x)) (λ _. steady_give ρ)
      steady_line (release x) A R ρ = steady_bind (steady_release (ρ x)) (λ _. steady_give ρ)

  -- ---- calls and the delivery

  module _ (p : Program) where
    pub steady_call : (n : ℕ) → SteadyCallee (machine p n)
    unfolding machine
    steady_call zero R f ws = steady_halt 22
    steady_call (suc n) R f ws = steady_tree (machine p n) (λ S g vs. steady_call n S g vs) p.borrowing
        (routine_of p f).depths (routine_of p f).tree empty R
        (framed (routine_of p f).names ws)

    -- the readings' cell, main, and its result in the place of the totals, which are the word old
    abbrev delivery_with : List ℤ → ℤ → Work (Unit {0})
    delivery_with readings old =
        let R = named_by p.depth (old ∷ []) in
        do
          c ← acquire R 0 readings
          if_array p.depth (retain_word old)
          w ← machine p 32 R 0 (old ∷ c ∷ [])
          (λ s. done tt (with_store s (with_totals s.store w) []))
          if_array p.depth (release_word old)

    steady_with : (readings : List ℤ) (old : ℤ) → Same (delivery_with readings old)
    steady_with readings old = steady_bind (steady_acquire (named_by p.depth (old ∷ [])) 0 readings)
        (λ c. steady_bind (steady_if_array p.depth (steady_retain old))
        (λ _. steady_bind (steady_call 32 (named_by p.depth (old ∷ [])) 0 (old ∷ c ∷ []))
        (λ w. steady_bind (steady_totals w) (λ _. steady_if_array p.depth (steady_release old)))))

    pub steady_delivery : (readings : List ℤ) → Same (delivery p readings)
    unfolding delivery
    steady_delivery readings = record {
      logs = λ s h. (steady_with readings s.store.totals).logs s h;
      same = λ s s' w h.
          subst (λ (old : ℤ). Untouched (delivery_with readings old s') →
          SameEnd cells steps (delivery p readings s) (delivery_with readings old s'))
          (sym (same_totals w.stores)) ((steady_with readings s.store.totals).same s s' w) h;
    }
