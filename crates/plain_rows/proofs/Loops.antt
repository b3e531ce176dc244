-- Loops as they are read and as they are written.
use Rattle.prelude.specs.Kit.{ℕ, true, false, Bool, cond, ◌≡◌, refl, List}
use Rattle.semantics.specs.Kinds.{Loop, mapping, filtering, reducing, rewriting, loop_kind}
use Rattle.semantics.specs.Code.{Atom}
use Rattle.semantics.specs.Live.{Set}
use Rattle.semantics.specs.Annotate.{NameDepths}
use Rattle.plain_rows.specs.Plain.{loop_of, loop_size, of_loop}
use Rattle.plain_rows.specs.Parts.{is_rewritten, written_as}

-- a loop's kind tells it
pub loop_again : (k : Loop) → k ≡ loop_of (loop_kind k)
loop_again mapping = refl
loop_again filtering = refl
loop_again reducing = refl
loop_again rewriting = refl

-- ---- the loop that is written has the names and the atoms of the loop that is read

module _ (Γ : NameDepths) (x : ℕ) where
  as_written : (P : Loop → Loop → Type 0) → P mapping mapping → P mapping rewriting → P filtering filtering →
      P reducing reducing → P rewriting rewriting → (k : Loop) (us : List Atom) (O A : Set) →
      P k (written_as Γ x k us O A)
  as_written P m n f r w mapping us O A = go (is_rewritten Γ x us O A)
    where
      go : (b : Bool) → P mapping (cond b rewriting mapping)
      go true = n
      go false = m
  as_written P m n f r w filtering us O A = f
  as_written P m n f r w reducing us O A = r
  as_written P m n f r w rewriting us O A = w

  pub same_parts : {T : Type 0} (k : Loop) (us : List Atom) (O A : Set) (a b : T) →
      of_loop k a b ≡ of_loop (loop_of (loop_kind (written_as Γ x k us O A))) a b
  same_parts k us O A a b =
      as_written (λ i j. of_loop i a b ≡ of_loop (loop_of (loop_kind j)) a b) refl refl refl refl refl k us O A

  pub same_size : (k : Loop) (us : List Atom) (O A : Set) →
      loop_size k ≡ loop_size (loop_of (loop_kind (written_as Γ x k us O A)))
  same_size k us O A =
      as_written (λ i j. loop_size i ≡ loop_size (loop_of (loop_kind j))) refl refl refl refl refl k us O A
