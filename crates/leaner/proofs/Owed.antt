-- `twin_owes`: the first of two twin trees leaves what the leaner does, so that nothing stays owed.
use Rattle.prelude.specs.Kit.{ℕ, List, [], ◌∷◌}
use Rattle.semantics.specs.Kinds.{mapping, rewriting}
use Rattle.semantics.specs.Code.{name, leaf, if_else, loop, retain, release, Tree}
use Rattle.discipline.proofs.machine.Discipline.{less, left_by}
use Rattle.discipline.proofs.machine.Spending.{less_spends}
use Rattle.discipline.proofs.machine.Frames.{Setting, given}
use Rattle.leaner.proofs.Twin.{Twin, same_end, same_leaf, same_if, same_loop, same_retain}
use Rattle.leaner.proofs.Twin.{same_release, raised, spared, rewritten}
use Rattle.leaner.proofs.Owing.{owes_less, owes_raised, owes_spared, TreeOwes, owes_leaf, owes_loop, owes_retain}
use Rattle.leaner.proofs.Owing.{owes_release, owes_rewritten, owes_rest, owes_if}

module _ (C : Setting) where
  -- twin trees leave nothing owed
  pub twin_owes : {X : List ℕ} {t t' : Tree} → Twin X t t' → TreeOwes C X t t'
  unfolding left_by
  twin_owes (same_end {a}) = λ B S L H H' P Δ d rules q.
      owes_less [] (given C (a ∷ [])) H H' (less_spends (given C (a ∷ [])) H' Δ rules.holds) q
  twin_owes (same_leaf {X} {x} {l} {us} {t} {t'} w) = owes_rest C X X (leaf x l us) (leaf x l us) t t'
      (owes_leaf C X x l us) (twin_owes w)
  twin_owes (same_if {x} {g} {a} {a'} {b} {b'} {t} {t'} u v w) =
      owes_rest C [] [] (if_else x g a b) (if_else x g a' b') t t' (owes_if C x g a a' b b' (twin_owes u)) (twin_owes w)
  twin_owes (same_loop {X} {x} {k} {ps} {us} {b} {b'} {t} {t'} v w) =
      owes_rest C X X (loop x k ps us b) (loop x k ps us b') t t' (owes_loop C X x k ps us b b') (twin_owes w)
  twin_owes (same_retain {X} {y} {t} {t'} w) = owes_rest C X X (retain y) (retain y) t t' (owes_retain C X y)
      (twin_owes w)
  twin_owes (same_release {X} {y} {t} {t'} w) = owes_rest C X X (release y) (release y) t t' (owes_release C X y)
      (twin_owes w)
  twin_owes (raised {X} {y} {t} {t'} w) = λ B S L H H' P Δ d rules q.
      twin_owes w B S L (y ∷ H) H' P Δ d rules (owes_raised X y H H' q)
  twin_owes (spared {X} {y} {t} {t'} h w) = λ B S L H H' P Δ d rules q.
      twin_owes w B S L (less (y ∷ []) H) H' P Δ d rules (owes_spared X y H H' h q)
  twin_owes (rewritten {X} {x} {y} {ps} {b} {b'} {t} {t'} v w) =
      owes_rest C X (y ∷ X) (loop x mapping ps (name y ∷ []) b) (loop x rewriting ps (name y ∷ []) b') t t'
      (owes_rewritten C X x y ps b b') (twin_owes w)
