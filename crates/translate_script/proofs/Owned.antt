-- Laws of the depths by which a function's names are annotated: its borrowed parameters one by one.
use Rattle.prelude.specs.Kit.{ℕ, ◌≤◌, ◌<◌, ◌≡◌, List}
use Rattle.prelude.specs.Kit.{length, get_or}
use Rattle.semantics.specs.Borrow.{Table}
use Rattle.translate_script.specs.Rows.{owned_of}

-- of the first n names those below i are owned
pub record Owning (T : Table) (f n : ℕ) (depths owned : List ℕ) (i : ℕ) : Type 0 where
  pub long : length owned ≡ 256
  pub done : (x : ℕ) → x < i → get_or owned x 0 ≡ owned_of T f n (λ y. get_or depths y 0) x
  pub left : (x : ℕ) → i ≤ x → get_or owned x 0 ≡ get_or depths x 0
