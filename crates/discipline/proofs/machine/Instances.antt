-- Two small programs that are disciplined. The first is main(t: 1, r: 1): 1 = map (p in r) p + size(r);
-- size(a: 1): 0 = length(a). Its map lends r to its tree, which lends it to `size`, which borrows it. The second is
-- main(t: 1, r: 1): 1 = map (p in r) p + 1, whose map rewrites r.
use Rattle.prelude.specs.Kit.{ℕ, ◌≤◌, ◌<◌, suc, zero, arith, true, false, ◌≡◌, refl, [], ◌∷◌, eqb, pos, get_or}
use Rattle.semantics.specs.Basics.{occurrences}
use Rattle.semantics.specs.Number.{sum}
use Rattle.semantics.specs.Kinds.{operation, call, length_of, mapping, rewriting}
use Rattle.semantics.specs.Types.{Signature}
use Rattle.semantics.specs.Code.{number, name, leaf, loop, release, Tree, end, line, ending}
use Rattle.semantics.specs.Live.{Set, ◌∪◌, just, live, among}
use Rattle.semantics.specs.Annotate.{NameDepths, is_array}
use Rattle.semantics.specs.Machine.{Routine, Program, routine_of}
use Rattle.discipline.proofs.store.Kept.{only}
use Rattle.discipline.proofs.machine.Discipline.{without, less, unlent, left_by, Fitting, Scoped, New, Holding}
use Rattle.discipline.proofs.machine.Discipline.{FunctionDisciplined, Covered, FunctionFrugal}
use Rattle.discipline.proofs.machine.Standing.{none_in}
use Rattle.discipline.proofs.machine.Size.{tree_adds}
use Rattle.discipline.proofs.machine.Calls.{call_adds, ProgramDisciplined, ProgramFrugal}

abbrev pass : Tree
pass = line (leaf 4 (call 1) (name 1 ∷ [])) (line (leaf 5 (operation sum) (name 3 ∷ (name 4 ∷ []))) (end (name 5)))

abbrev body : Tree
body = line (release 0) (line (loop 2 mapping (3 ∷ []) (name 1 ∷ []) pass) (line (release 1) (end (name 2))))

abbrev depths : NameDepths
depths x = get_or (1 ∷ (1 ∷ (1 ∷ []))) x 0

abbrev main : Routine
main = record { names = 0 ∷ (1 ∷ []); tree = body; depths = depths }

abbrev shape : Signature
shape = record { parameters = 1 ∷ (1 ∷ []); result = 1 }

abbrev size_depths : NameDepths
size_depths x = get_or (1 ∷ []) x 0

abbrev size : Routine
size = record { names = 0 ∷ []; tree = line (leaf 1 length_of (name 0 ∷ [])) (end (name 1)); depths = size_depths }

abbrev size_shape : Signature
size_shape = record { parameters = 1 ∷ []; result = 0 }

-- `size` borrows, and main does not
abbrev small : Program
small = record {
  routines = main ∷ (size ∷ []);
  signatures = λ f. get_or (shape ∷ []) f size_shape;
  borrowing = λ f i. eqb f 1;
  depth = 1;
}

new : (x : ℕ) (S : Set) → S x ≡ false → x < 256 → New x S
new x S e h = record { unknown = e; small = h }

pass_fits : Fitting small depths pass 0
pass_fits = (
  record { limits = tt; calls = refl; gives = refl },
  (record { limits = refl; calls = refl; gives = refl }, refl),
)

pass_scoped : Scoped pass (just (0 ∷ (1 ∷ [])) ∪ just (3 ∷ []))
pass_scoped = (((refl, tt), new 4 _ refl (omega arith)), (((refl, (refl, tt)), new 5 _ refl (omega arith)), refl))

-- with the name 1 lent, and without a hold
pass_holds : Holding small.borrowing depths (1 ∷ []) pass [] [] []
unfolding less without occurrences left_by
pass_holds = (((λ n. omega arith), λ n h. h), (((λ n. omega arith), λ n h. absurd (omega arith)), λ n. refl))

main_disciplined : FunctionDisciplined small 0
unfolding ending without less unlent left_by occurrences
main_disciplined = record {
  parameters = refl;
  new = (new 0 _ refl (omega arith), (new 1 _ refl (omega arith), tt));
  fits = (
    omega arith,
    ((record { limits = refl; deep = omega arith; names = refl; gives = refl }, pass_fits), (omega arith, refl)),
  );
  scoped = (
    refl,
    (
      ((refl, tt), new 2 _ refl (omega arith), (new 3 _ refl (omega arith), tt), pass_scoped),
      (refl, refl),
    ),
  );
  holds = (omega arith, (((λ n. omega arith), (λ n h. h), pass_holds), (omega arith, λ n. refl)));
}

-- its parameter is lent and holds nothing
size_disciplined : FunctionDisciplined small 1
unfolding ending without less left_by occurrences
size_disciplined = record {
  parameters = refl;
  new = (new 0 _ refl (omega arith), tt);
  fits = (record { limits = refl; calls = refl; gives = refl }, refl);
  scoped = (((refl, tt), new 1 _ refl (omega arith)), refl);
  holds = (((λ n. omega arith), λ n h. h), λ n. refl);
}

functions : (f : ℕ) → f < 2 → FunctionDisciplined small f
functions zero h = main_disciplined
functions (suc zero) h = size_disciplined
functions (suc (suc f)) h = absurd (omega (arith, h))

short : (f : ℕ) → f < 2 → tree_adds (routine_of small f).tree ≤ call_adds
unfolding tree_adds
short zero h = omega arith
short (suc zero) h = omega arith
short (suc (suc f)) h = absurd (omega (arith, h))

pub small_disciplined : ProgramDisciplined small
small_disciplined = record {
  functions = functions;
  short = short;
  some = omega arith;
  owns = λ i. refl;
  takes = refl;
  gives = refl;
}

-- ---- it is frugal too

no_name : {Γ : NameDepths} (A : Set) → Covered Γ [] A
no_name A = record {
  live = λ n h. absurd (none_in n h);
  below = λ n h. absurd (none_in n h);
  array = λ n h. absurd (none_in n h);
}

one_name : (x : ℕ) (A : Set) → A x ≡ true → x < 256 → is_array depths x ≡ true → Covered depths (x ∷ []) A
one_name x A live below array = record {
  live = λ n h. only (λ (k : ℕ). A k ≡ true) x live n h;
  below = λ n h. only (λ (k : ℕ). k < 256) x below n h;
  array = λ n h. only (λ (k : ℕ). is_array depths k ≡ true) x array n h;
}

main_frugal : FunctionFrugal small 0
unfolding without less unlent left_by occurrences live among
main_frugal = (
  tt,
  ((one_name 1 _ refl (omega arith) refl, ((no_name _, no_name _), ((no_name _, no_name _), tt))), (tt, tt)),
)

size_frugal : FunctionFrugal small 1
unfolding without less left_by occurrences live among
size_frugal = ((no_name _, no_name _), tt)

pub small_frugal : ProgramFrugal small
small_frugal zero h = main_frugal
small_frugal (suc zero) h = size_frugal
small_frugal (suc (suc f)) h = absurd (omega (arith, h))

-- ---- a map that rewrites its array

abbrev raised : Tree
raised = line (leaf 4 (operation sum) (name 3 ∷ (number (pos 1) ∷ []))) (end (name 4))

-- it hands the array over, so that no release follows
abbrev rewriting_body : Tree
rewriting_body = line (release 0) (line (loop 2 rewriting (3 ∷ []) (name 1 ∷ []) raised) (end (name 2)))

abbrev rewriter : Program
rewriter = record {
  routines = record { names = 0 ∷ (1 ∷ []); tree = rewriting_body; depths = depths } ∷ [];
  signatures = λ f. shape;
  borrowing = λ f i. false;
  depth = 1;
}

rewriter_main : FunctionDisciplined rewriter 0
unfolding ending without less unlent left_by occurrences
rewriter_main = record {
  parameters = refl;
  new = (new 0 _ refl (omega arith), (new 1 _ refl (omega arith), tt));
  fits = (
    omega arith,
    (
      (
        record { limits = refl; deep = omega arith; names = refl; gives = refl },
        (record { limits = refl; calls = refl; gives = refl }, refl),
      ),
      refl,
    ),
  );
  scoped = (
    refl,
    (
      (
        (refl, tt),
        new 2 _ refl (omega arith),
        (new 3 _ refl (omega arith), tt),
        (((refl, (tt, tt)), new 4 _ refl (omega arith)), refl),
      ),
      refl,
    ),
  );
  holds = (
    omega arith,
    (
      (
        (λ n. omega arith),
        (λ n h. absurd (omega arith)),
        (((λ n. omega arith), λ n h. absurd (omega arith)), λ n. refl),
      ),
      λ n. refl,
    ),
  );
}

pub rewriter_disciplined : ProgramDisciplined rewriter
unfolding tree_adds
rewriter_disciplined = record {
  functions = λ f h. one f h;
  short = λ f h. few f h;
  some = omega arith;
  owns = λ i. refl;
  takes = refl;
  gives = refl;
}
  where
    one : (f : ℕ) → f < 1 → FunctionDisciplined rewriter f
    one zero h = rewriter_main
    one (suc f) h = absurd (omega (arith, h))

    few : (f : ℕ) → f < 1 → tree_adds (routine_of rewriter f).tree ≤ call_adds
    few zero h = omega arith
    few (suc f) h = absurd (omega (arith, h))

pub rewriter_frugal : ProgramFrugal rewriter
unfolding without less unlent left_by occurrences live among
rewriter_frugal zero h = (tt, ((one_name 1 _ refl (omega arith) refl, ((no_name _, no_name _), tt)), tt))
rewriter_frugal (suc f) h = absurd (omega (arith, h))
