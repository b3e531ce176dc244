-- The lengths of the parts of a saved file.
use Rattle.std.specs.Prelude.{ℕ, suc, zero, ◌*◌, ◌/◌, ◌≡◌, refl, List, [], ◌∷◌, length}
use Rattle.prelude.specs.Kit.{arith, ◌∙◌, ap, length-append}
use Rattle.semantics.specs.Saved.{Entry, unsigned, low_bytes, marks, number_bytes, file_bytes, saved_length}

pub low_bytes_length : (k n : ℕ) → length (low_bytes k n) ≡ k
unfolding low_bytes
low_bytes_length zero n = refl
low_bytes_length (suc k) n = ap suc (low_bytes_length k (n / 256))

pub marks_length : (es : List Entry) → length (marks es) ≡ length es
unfolding marks
marks_length [] = refl
marks_length (e ∷ es) = ap suc (marks_length es)

pub number_bytes_length : (es : List Entry) → length (number_bytes es) ≡ 8 * length es
unfolding number_bytes
number_bytes_length [] = refl
number_bytes_length (e ∷ es) =
    length-append (low_bytes 8 (unsigned e.number)) (number_bytes es)
    ∙ omega (arith, low_bytes_length 8 (unsigned e.number), number_bytes_length es)

pub file_length : (d : ℕ) (es : List Entry) → length (file_bytes d es) ≡ saved_length (length es)
unfolding file_bytes low_bytes
file_length d es =
    omega (arith, length-append (marks es) (number_bytes es), marks_length es, number_bytes_length es)
