-- Every pair of twin trees, by induction; calls are taken for granted.
use Rattle.prelude.specs.Kit.{ℕ, arith, ◌≡◌, refl, ap, List, [], ◌∷◌, length}
use Rattle.semantics.specs.Kinds.{Leaf, operation, call, literal, index, length_of, iota, replicate, Loop, mapping}
use Rattle.semantics.specs.Kinds.{filtering, reducing, rewriting}
use Rattle.semantics.specs.Code.{Atom, name, Line, leaf, if_else, loop, retain, release, Tree}
use Rattle.semantics.specs.Annotate.{NameDepths, pass_depths}
use Rattle.semantics.specs.Machine.{Routine, Program}
use Rattle.discipline.proofs.normal.Trace.{CalleeGrows}
use Rattle.discipline.proofs.machine.Discipline.{loop_arity}
use Rattle.discipline.proofs.machine.Frames.{Setting}
use Rattle.discipline.proofs.machine.Claims.{TreeClaim, LineClaim}
use Rattle.leaner.proofs.Twin.{Twin, same_end, same_leaf, same_if, same_loop, same_retain}
use Rattle.leaner.proofs.Twin.{same_release, raised, spared, rewritten}
use Rattle.leaner.proofs.Runs.{Race, Starts}
use Rattle.leaner.proofs.Claims.{first_setting, leaner_setting, TreeTwins, LineTwins}
use Rattle.leaner.proofs.Owing.{owes_leaf, owes_if, owes_loop, owes_retain, owes_release, owes_rewritten}
use Rattle.leaner.proofs.Owed.{twin_owes}
use Rattle.leaner.proofs.Trees.{twin_end, twin_line}
use Rattle.leaner.proofs.Holding.{twin_retain, twin_release, twin_raised, twin_spared}
use Rattle.leaner.proofs.Leaves.{LeafTwins, twin_leaf}
use Rattle.leaner.proofs.Reading.{twin_operation, twin_length, twin_index}
use Rattle.leaner.proofs.Making.{twin_literal, twin_iota, twin_replicate}
use Rattle.leaner.proofs.Calling.{CallTwins, twin_call}
use Rattle.leaner.proofs.Branches.{twin_if}
use Rattle.leaner.proofs.Mapping.{map_twins}
use Rattle.leaner.proofs.Filtering.{filter_twins}
use Rattle.leaner.proofs.Reducing.{reduce_twins}
use Rattle.leaner.proofs.Rewriting.{rewrite_twins}
use Rattle.leaner.proofs.Rewritings.{rewritings_twins}

module _ {r : Race} (starts : Starts r) (p : Program) (rs : List Routine) (n : ℕ) (Γ : NameDepths) where
  abbrev C : Setting
  C = first_setting r p n Γ

  abbrev C' : Setting
  C' = leaner_setting r p rs n Γ

  -- a loop with one part, whose passes have one name
  one_part : {X : List ℕ} {x : ℕ} (i j : Loop) (ps : List ℕ) (us : List Atom) (t t' : Tree) → loop_arity i ≡ 1 →
      ((Γ : NameDepths) (vs : List Atom) → length (pass_depths i Γ vs) ≡ 1) →
      ((z : ℕ) (v : Atom) → LineTwins r p rs n Γ X (loop x i (z ∷ []) (v ∷ []) t) (loop x j (z ∷ []) (v ∷ []) t')) →
      LineTwins r p rs n Γ X (loop x i ps us t) (loop x j ps us t')
  one_part i j ps [] t t' one each claim = λ S S' A A' H H' P P' Δ Δ' E π a a' ρ ρ' k k' s s' rules.
      absurd (omega (arith, rules.fits.0.limits))
  one_part i j ps (v ∷ (w ∷ us)) t t' one each claim = λ S S' A A' H H' P P' Δ Δ' E π a a' ρ ρ' k k' s s' rules.
      absurd (omega (arith, rules.fits.0.limits))
  one_part i j [] (v ∷ []) t t' one each claim = λ S S' A A' H H' P P' Δ Δ' E π a a' ρ ρ' k k' s s' rules.
      absurd (omega (arith, ap length rules.fits.0.names, each Γ (v ∷ [])))
  one_part i j (z ∷ (y ∷ ps)) (v ∷ []) t t' one each claim = λ S S' A A' H H' P P' Δ Δ' E π a a' ρ ρ' k k' s s' rules.
      absurd (omega (arith, ap length rules.fits.0.names, each Γ (v ∷ [])))
  one_part i j (z ∷ []) (v ∷ []) t t' one each claim = claim z v

  module _ (grows : CalleeGrows C'.meant) (trees : (t : Tree) → TreeClaim C t) (trees' : (t : Tree) → TreeClaim C' t)
    where
      two_parts : {X : List ℕ} {x : ℕ} (ps : List ℕ) (us : List Atom) (t t' : Tree) → TreeTwins r p rs n Γ [] t t' →
          LineTwins r p rs n Γ X (loop x reducing ps us t) (loop x reducing ps us t')
      two_parts ps [] t t' claim = λ S S' A A' H H' P P' Δ Δ' E π a a' ρ ρ' k k' s s' rules.
          absurd (omega (arith, rules.fits.0.limits))
      two_parts ps (o ∷ []) t t' claim = λ S S' A A' H H' P P' Δ Δ' E π a a' ρ ρ' k k' s s' rules.
          absurd (omega (arith, rules.fits.0.limits))
      two_parts ps (o ∷ (v ∷ (w ∷ us))) t t' claim = λ S S' A A' H H' P P' Δ Δ' E π a a' ρ ρ' k k' s s' rules.
          absurd (omega (arith, rules.fits.0.limits))
      two_parts [] (o ∷ (v ∷ [])) t t' claim = λ S S' A A' H H' P P' Δ Δ' E π a a' ρ ρ' k k' s s' rules.
          absurd (omega (arith, ap length rules.fits.0.names))
      two_parts (y ∷ []) (o ∷ (v ∷ [])) t t' claim = λ S S' A A' H H' P P' Δ Δ' E π a a' ρ ρ' k k' s s' rules.
          absurd (omega (arith, ap length rules.fits.0.names))
      two_parts (y ∷ (z ∷ (x₁ ∷ ps))) (o ∷ (v ∷ [])) t t' claim =
          λ S S' A A' H H' P P' Δ Δ' E π a a' ρ ρ' k k' s s' rules.
          absurd (omega (arith, ap length rules.fits.0.names))
      two_parts {X} {x} (y ∷ (z ∷ [])) (o ∷ (v ∷ [])) t t' claim =
          reduce_twins starts p rs n Γ trees trees' X x y z o v t t' claim

      -- a loop of the same kind on both sides
      twin_loop : (X : List ℕ) (x : ℕ) (i : Loop) (ps : List ℕ) (us : List Atom) (t t' : Tree) →
          TreeTwins r p rs n Γ [] t t' →
          LineTwins r p rs n Γ X (loop x i ps us t) (loop x i ps us t')
      twin_loop X x mapping ps us t t' claim = one_part mapping mapping ps us t t' refl (λ Δ vs. refl)
          (λ z v. map_twins starts p rs n Γ trees trees' X x z v t t' claim)
      twin_loop X x filtering ps us t t' claim = one_part filtering filtering ps us t t' refl (λ Δ vs. refl)
          (λ z v. filter_twins starts p rs n Γ trees trees' X x z v t t' claim)
      twin_loop X x reducing ps us t t' claim = two_parts ps us t t' claim
      twin_loop X x rewriting ps us t t' claim = one_part rewriting rewriting ps us t t' refl (λ Δ vs. refl)
          (λ z v. rewritings_twins starts p rs n Γ grows trees trees' X x z v t t' claim)

      module _ (lines : (l : Line) → LineClaim C l) (lines' : (l : Line) → LineClaim C' l)
          (calls : CallTwins r p rs n Γ) where
        every_leaf : (X : List ℕ) (l : Leaf) → LeafTwins r p rs n Γ X l
        every_leaf X (operation o) = twin_operation r p rs n Γ X o
        every_leaf X (call f) = twin_call r p rs n Γ X calls f
        every_leaf X (literal d) = twin_literal starts p rs n Γ X d
        every_leaf X index = twin_index r p rs n Γ X
        every_leaf X length_of = twin_length r p rs n Γ X
        every_leaf X iota = twin_iota starts p rs n Γ X
        every_leaf X replicate = twin_replicate starts p rs n Γ X

        pub twin_trees : {X : List ℕ} {t t' : Tree} → Twin X t t' → TreeTwins r p rs n Γ X t t'
        twin_trees (same_end {a}) = twin_end r p rs n Γ a
        twin_trees (same_leaf {X} {x} {l} {us} {t} {t'} w) =
            twin_line r p rs n Γ lines lines' X X (leaf x l us) (leaf x l us) t t'
            (twin_leaf r p rs n Γ X x l us (every_leaf X l)) (owes_leaf C' X x l us) (twin_trees w)
        twin_trees (same_if {x} {g} {a} {a'} {b} {b'} {t} {t'} u v w) =
            twin_line r p rs n Γ lines lines' [] [] (if_else x g a b) (if_else x g a' b') t t'
            (twin_if r p rs n Γ x g a a' b b' (twin_trees u) (twin_trees v) (twin_owes C' u))
            (owes_if C' x g a a' b b' (twin_owes C' u)) (twin_trees w)
        twin_trees (same_loop {X} {x} {k} {ps} {us} {b} {b'} {t} {t'} v w) =
            twin_line r p rs n Γ lines lines' X X (loop x k ps us b) (loop x k ps us b') t t'
            (twin_loop X x k ps us b b' (twin_trees v)) (owes_loop C' X x k ps us b b') (twin_trees w)
        twin_trees (same_retain {X} {y} {t} {t'} w) =
            twin_line r p rs n Γ lines lines' X X (retain y) (retain y) t t' (twin_retain r p rs n Γ X y)
            (owes_retain C' X y) (twin_trees w)
        twin_trees (same_release {X} {y} {t} {t'} w) =
            twin_line r p rs n Γ lines lines' X X (release y) (release y) t t' (twin_release r p rs n Γ X y)
            (owes_release C' X y) (twin_trees w)
        twin_trees (raised {X} {y} {t} {t'} w) = twin_raised r p rs n Γ lines y t t' (twin_trees w)
        twin_trees (spared {X} {y} {t} {t'} h w) = twin_spared r p rs n Γ lines y t t' h (twin_trees w)
        twin_trees (rewritten {X} {x} {y} {ps} {b} {b'} {t} {t'} v w) =
            twin_line r p rs n Γ lines lines' X (y ∷ X) (loop x mapping ps (name y ∷ []) b)
            (loop x rewriting ps (name y ∷ []) b') t t'
            (one_part mapping rewriting ps (name y ∷ []) b b' refl (λ Δ vs. refl)
            (λ z u. rewrite_twins starts p rs n Γ grows trees trees' X x z u b b' (twin_trees v)))
            (owes_rewritten C' X x y ps b b') (twin_trees w)
