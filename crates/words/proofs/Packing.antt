-- Small parts of an answer are packed as they are.
use Rattle.prelude.specs.Kit.{ℕ, ◌<◌, ◌%◌, ◌^◌, arith, ◌≡◌}
use Rattle.semantics.specs.Calls.{packed}

pub packed_small : {number node count cells : ℕ} → number < 2 ^ 8 → node < 2 ^ 16 → count < 2 ^ 24 → cells < 2 ^ 16 →
    packed (number % 2 ^ 8) (node % 2 ^ 16) (count % 2 ^ 24) (cells % 2 ^ 16) ≡ packed number node count cells
unfolding packed
packed_small f g h i = omega arith
