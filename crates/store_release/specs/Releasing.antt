-- What a release does to a store, and how many cells it frees.
use Rattle.std.specs.Prelude.{◌≡◌, ℕ, ◌+◌, ◌≤◌}
use Rattle.semantics.specs.Store.{Store, released, cells_taken}

-- a release of a cell down some levels, which freed n cells
pub record Releases (levels c : ℕ) (σ σ' : Store) (n : ℕ) : Type 0 where
  pub store : σ' ≡ released levels c σ
  pub freed : n + cells_taken σ' ≡ cells_taken σ
  pub few : n ≤ 256
