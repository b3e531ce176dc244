-- What holds of all that a file may read as, and that a file is accepted as one script.
use Rattle.std.specs.Prelude.{ℕ, ◌≤◌, ◌+◌, ◌*◌, true, false, Bool, cond, ◌&&◌, ◌≡◌, refl, List, eqb, ltb, leb, length}
use Rattle.std.specs.Prelude.{take, drop}
use Rattle.prelude.specs.Kit.{leb-true}
use Rattle.semantics.specs.Outcome.{Outcome, stop}
use Rattle.semantics.specs.Number.{bytes_at}
use Rattle.semantics.specs.Syntax.{Script}
use Rattle.semantics.specs.File.{script, between, read_file}
use Rattle.semantics.specs.Calls.{accepted}
use Rattle.laws.specs.Tests.{both_hold}

-- a file is accepted as one script
pub same_script : {fs gs : Script} → accepted fs ≡ accepted gs → fs ≡ gs
same_script e = cc

pub between_is : (low high n : ℕ) → between low high n ≡ true → (low ≤ n) × (n ≤ high)
between_is low high n e =
    let both = both_hold (leb low n) (leb n high) e in
    (leb-true low n both.0, leb-true n high both.1)

-- the two sizes at the head of a file, within their limits
pub record Sizes (m n : ℕ) : Type 0 where
  pub functions : (1 ≤ m) × (m ≤ 32)
  pub nodes : (1 ≤ n) × (n ≤ 1024)

-- a file is refused by its size, or by the sizes at its head, or its nodes are read
pub of_file : (P : Outcome ℕ Script → Type 0) (file : List ℕ) → P (stop 1 0) → P (stop 2 0) →
    (Sizes (bytes_at 2 file 0) (bytes_at 2 file 2) →
    P (script (take (bytes_at 2 file 2) (drop 4 file)) (drop (4 + bytes_at 2 file 2) file) (bytes_at 2 file 0) 0)) →
    P (read_file file)
unfolding read_file
of_file P file one two read =
    go (ltb (length file) 4) (between 1 32 functions && between 1 1024 nodes) refl (eqb (length file) (4 + 9 * nodes))
  where
    functions : ℕ
    functions = bytes_at 2 file 0

    nodes : ℕ
    nodes = bytes_at 2 file 2

    whole : Outcome ℕ Script
    whole = script (take nodes (drop 4 file)) (drop (4 + nodes) file) functions 0

    sizes : (between 1 32 functions && between 1 1024 nodes) ≡ true → Sizes functions nodes
    sizes e =
        let both = both_hold (between 1 32 functions) (between 1 1024 nodes) e in
        record { functions = between_is 1 32 functions both.0; nodes = between_is 1 1024 nodes both.1 }

    go : (short t : Bool) → (between 1 32 functions && between 1 1024 nodes) ≡ t → (u : Bool) →
        P (cond short (stop 1 0) (cond t (cond u whole (stop 1 0)) (stop 2 0)))
    go true t e u = one
    go false false e u = two
    go false true e false = one
    go false true e true = read (sizes e)
