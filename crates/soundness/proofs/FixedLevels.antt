-- What orders 2 and 8 fix of the lowest level, tried on a store that no opening leaves, with a map that rewrites its
-- array: 2 of 4 cells stay free, and 1 by the code in which the map stays a map.
use Rattle.prelude.specs.Kit.{ℕ, ◌≤◌, arith, ◌≡◌, refl, ◌∙◌, List, [], ◌∷◌, ◌++◌, ℤ, pos, replicate}
use Rattle.semantics.specs.Words.{store_of}
use Rattle.semantics.specs.Machine.{program_in, delivered}
use Rattle.semantics.specs.Calls.{lowest_of, StoreReply, engine_deliver}
use Rattle.semantics.specs.Ledger.{Delivery}
use Rattle.semantics.specs.Demands.{Engine, defined, Unrefused, TrueLeast, mapping_only, Rises}
use Rattle.semantics.specs.Computing.{computing}
use Rattle.semantics.specs.Slips.{file_of, low_first, operand_bytes}
use Rattle.soundness.proofs.Instances.{rewritten_nodes, rewritten_script, rewritten_accepted}
use Rattle.soundness.proofs.Fixed.{least_one}
use Rattle.soundness.proofs.LowestLevel.{true_least}

-- four cells: the totals {9} in cell 2, and the free list 3, 0, 1
unfoldable pub slots : List ℤ
slots = pos 2 ∷ (replicate 32 (pos 0) ++ (pos 9 ∷ replicate 31 (pos 0)))

unfoldable pub heads : List ℕ
heads = 3 ∷ 0 ∷ 0 ∷ 0 ∷ 1 ∷ 0 ∷ 0 ∷ 0 ∷ 4 ∷ 1 ∷ 1 ∷ 0 ∷ 0 ∷ 0 ∷ 0 ∷ 0 ∷ 0 ∷ []

abbrev pub file : List ℕ
file = file_of 1 rewritten_nodes

-- a delivery of {5, 6}
abbrev pub request : Delivery
request = record {
  kinds = replicate 40 0;
  operands = replicate 40 (pos 0);
  readings = pos 5 ∷ pos 6 ∷ [];
  budget = 1000;
}

unrefused : Unrefused file slots heads request rewritten_script
unfolding computing rewritten_script slots heads
unrefused = record { is_accepted = rewritten_accepted; code_stands = refl; requested = refl; is_sound = refl }

abbrev reply : StoreReply
reply = engine_deliver file request.kinds request.operands slots heads request.readings request.budget

two_left : lowest_of reply.answer ≡ 2
unfolding computing file_of low_first operand_bytes rewritten_nodes slots heads
two_left = refl

one_by_mapping : (delivered (program_in mapping_only rewritten_script) request.readings request.budget
    (store_of slots heads)).lowest ≡ 1
unfolding computing rewritten_script slots heads
one_by_mapping = refl

module _ (E : Engine) (r : StoreReply) (called : E.delivers file slots heads request r) where
  -- an engine that tells the true least tells 2
  pub least_fixed : TrueLeast E → lowest_of r.answer ≡ 2
  unfolding defined
  least_fixed whole =
      least_one (whole file slots heads request rewritten_script unrefused r called)
      (true_least file slots heads request rewritten_script unrefused reply refl) ∙ two_left

  -- and one whose levels rise tells 1 at least
  pub rise_fixed : Rises E → 1 ≤ lowest_of r.answer
  rise_fixed whole =
      omega (arith, whole file slots heads request rewritten_script unrefused r called, one_by_mapping)
