-- The line of a map beside one that rewrites its array.
use Rattle.prelude.specs.Kit.{ℕ, ◌+◌, ◌<◌, suc, pred, arith, true, false, Bool, cond, ◌≡◌, refl, List, [], ◌∷◌, ◌++◌}
use Rattle.prelude.specs.Kit.{eqb, ℤ, eqb-true}
use Rattle.semantics.specs.Basics.{updated}
use Rattle.semantics.specs.Outcome.{done, onward, give}
use Rattle.semantics.specs.Kinds.{mapping, rewriting}
use Rattle.semantics.specs.Code.{Atom, loop, Tree}
use Rattle.semantics.specs.Live.{◌∪◌, just, after_pass}
use Rattle.semantics.specs.Annotate.{NameDepths}
use Rattle.semantics.specs.Meaning.{Env}
use Rattle.semantics.specs.Machine.{State, Frame, Routine, Program, word, with_store, with_left, touching}
use Rattle.semantics.specs.Machine.{work_line, acquire, elements_of, is_alone}
use Rattle.semantics.specs.Store.{Store, cell, cell_of}
use Rattle.laws.specs.Lists.{◌⊆◌}
use Rattle.discipline.proofs.normal.Trace.{CalleeGrows}
use Rattle.discipline.proofs.machine.Discipline.{less, holds_after}
use Rattle.discipline.proofs.machine.Frames.{Setting, given, own}
use Rattle.discipline.proofs.machine.Size.{tree_adds, line_adds}
use Rattle.discipline.proofs.machine.Situations.{touch_together}
use Rattle.discipline.proofs.machine.Claims.{TreeClaim}
use Rattle.discipline.proofs.machine.Rules.{loop_fresh}
use Rattle.discipline.proofs.machine.Rewriting.{looked_at, fits}
use Rattle.leaner.proofs.Runs.{Race, Starts, Twins, both, after_step, level_leaner, touching_quiet}
use Rattle.leaner.proofs.Beside.{Around, Here, array_same}
use Rattle.leaner.proofs.Claims.{first_setting, leaner_setting, Before, before_less, LineEnded, TreeTwins}
use Rattle.leaner.proofs.Claims.{LineTwins}
use Rattle.leaner.proofs.Sites.{PassSite, map_site}
use Rattle.leaner.proofs.Reading.{read_used}
use Rattle.leaner.proofs.Passes.{at_element}
use Rattle.leaner.proofs.Binding.{line_bound}
use Rattle.leaner.proofs.Filling.{PassesDone}
use Rattle.leaner.proofs.Filled.{read_before}
use Rattle.leaner.proofs.Copied.{copied}
use Rattle.leaner.proofs.Copiers.{lending_copier, handed_reads, line_roots, loop_rest, mapping_fills}
use Rattle.leaner.proofs.InPlace.{in_place}

-- a run looks at a cell in use
pub here_looked : {C : Setting} {a : Around} {H P : List ℕ} {ρ : Frame} {n : ℕ} {s : State} (c : ℕ) →
    Here C a H P ρ n s → 0 < (cell s.store c).count → Here C a H P ρ n (looked_at c s)
unfolding with_store
here_looked {s = s} c q used = record {
  values = q.values;
  meter = q.meter;
  together = touch_together c s.store q.situation.invariant used refl refl q.together;
  situation = q.situation;
}

module _ {r : Race} (starts : Starts r) (p : Program) (rs : List Routine) (n : ℕ) (Γ : NameDepths) where
  abbrev C : Setting
  C = first_setting r p n Γ

  abbrev C' : Setting
  C' = leaner_setting r p rs n Γ

  -- the leaner run looks at a cell in use
  before_looked : {X E : List ℕ} {π : ℕ → ℕ} {a a' : Around} {H H' P P' : List ℕ} {ρ ρ' : Frame} {k k' : ℕ}
      {s s' : State} (c : ℕ) → Before r p rs n Γ X E π a a' H H' P P' ρ ρ' k k' s s' → 0 < (cell s'.store c).count →
      Before r p rs n Γ X E π a a' H H' P P' ρ ρ' k k' s (looked_at c s')
  unfolding with_store
  before_looked {s' = s'} c q used = record {
    first = q.first;
    leaner = here_looked c q.leaner used;
    tied = record {
      level = level_leaner r s'.store (touching s'.store c) (touching_quiet s'.store c) q.tied.level;
      stores = q.tied.stores;
    };
    framed = q.framed;
    images = q.images;
    owes = q.owes;
    exempt = q.exempt;
  }

  module _ (grows : CalleeGrows C'.meant) (trees : (t : Tree) → TreeClaim C t) (trees' : (t : Tree) → TreeClaim C' t)
    where
      pub rewrite_twins : (X : List ℕ) (x z : ℕ) (v : Atom) (t t' : Tree) → TreeTwins r p rs n Γ [] t t' →
          LineTwins r p rs n Γ X (loop x mapping (z ∷ []) (v ∷ []) t) (loop x rewriting (z ∷ []) (v ∷ []) t')
      unfolding work_line line_adds holds_after onward elements_of is_alone with_store with_left
      rewrite_twins X x z v t t' claim S S' A A' H H' P P' Δ Δ' E π a a' ρ ρ' k k' s s' rules rules' q need need' =
          after_step r _ _ q.tied (λ j j' f f' tied.
          let q₁ = before_looked (cell_of (word ρ' v)) (read_before starts p rs n Γ v site.reads reads q' (Γ z)
          site.array j j' f f' tied) (read_used r p rs n Γ q v reads (omega (arith, site.array))) in
          chosen j j' q₁ (eqb (cell s'.store (cell_of (word ρ' v))).count 1) refl)
        where
          d : ℕ
          d = pred (Γ x)

          J : List ℕ
          J = less (given C (v ∷ [])) H'

          Q : List ℕ
          Q = line_roots Γ x z v t A a ρ

          Q' : List ℕ
          Q' = line_roots Γ x z v t' A' a' ρ'

          site : PassSite C z v t a.lent (S ∪ just (z ∷ [])) (after_pass x (z ∷ []) t A) H d
          site = map_site C rules

          reads : given C (v ∷ []) ⊆ (a'.lent ++ H')
          reads = handed_reads a'.lent (given C (v ∷ [])) H' rules'.holds.0

          q' : Before r p rs n Γ X E π a a' H H' P P' ρ ρ' (suc (tree_adds t + k)) (suc (tree_adds t' + k')) s s'
          q' = before_less r p rs n Γ (omega arith) (omega arith) q

          -- the first has nothing more to do after its passes
          ended : {b : Around} {I : List ℕ} {δ : Env} {m i : ℕ} {σ : Store} {w : ℤ} {t₁ : State} {w' : ℤ}
              {t₁' : State} →
              PassesDone r p rs n Γ d b I ρ δ m σ E π a' J ρ' i w t₁ w' t₁' →
              Twins r (LineEnded r p rs n Γ E π a' (own C x ++ J) []) (done (updated ρ x w) t₁)
              (done (updated ρ' x w') t₁')
          ended f = both (line_bound r p rs n Γ x (loop_fresh C' rules')
              (array_same (omega (arith, (fits C' grows rules' (trees' t')).2)) f.result) f.framed f.stays
              f.tied)

          -- nothing else refers to the array, or something does
          chosen : (j j' : ℕ) →
              Before r p rs n Γ X E π a a' H H' P P' ρ ρ' (suc (tree_adds t + k)) (suc (tree_adds t' + k'))
              (at_element s j (word ρ v)) (looked_at (cell_of (word ρ' v)) (at_element s' j' (word ρ' v))) →
              (g : Bool) → eqb (cell s'.store (cell_of (word ρ' v))).count 1 ≡ g →
              Twins r (LineEnded r p rs n Γ E π a' (own C x ++ J) [])
              (onward (loop_rest C mapping x z v t (after_pass x (z ∷ []) t A) Q ρ s.store)
              (acquire Q d [] (at_element s j (word ρ v))))
              (onward (loop_rest C' rewriting x z v t' (after_pass x (z ∷ []) t' A') Q' ρ' s'.store)
              (cond g (give (word ρ' v)) (acquire Q' d []) (looked_at (cell_of (word ρ' v))
              (at_element s' j' (word ρ' v)))))
          chosen j j' q₁ true e = in_place starts p rs n Γ grows trees trees' claim rules' need need' q₁
              (lending_copier site Q starts.careless q₁.first)
              (eqb-true (cell s'.store (cell_of (word ρ' v))).count 1 e) mapping mapping_fills
              (λ c w t₁ w' t₁' f. ended f)
          chosen j j' q₁ false e = copied starts p rs n Γ grows trees trees' claim rules' need need' q₁
              (lending_copier site Q starts.careless q₁.first) mapping mapping_fills (λ c w t₁ w' t₁' f. ended f)
