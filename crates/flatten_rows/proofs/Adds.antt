-- Laws of rows laid before a tree: none, a line, and some after others.
use Rattle.prelude.specs.Kit.{ℕ, ◌≤◌, ◌+◌, ◌<◌, arith, ◌≡◌, refl, ◌∙◌, sym, ap, subst, fun_ext, List}
use Rattle.semantics.specs.Code as C
use Rattle.semantics.specs.Code.{Tree, line}
use Rattle.semantics.specs.Annotate.{NameDepths, tree_depths, line_depths}
use Rattle.plain_rows.specs.Plain.{Plain, note}
use Rattle.plain_rows.specs.Parts.{depth_in}
use Rattle.plain_rows.specs.Marks.{Marks, marks_of, marks, line_marks, line_extent}
use Rattle.plain_rows.specs.Stands.{Stands, StandsLine}
use Rattle.flatten_rows.specs.Shallow.{Shallow}
use Rattle.flatten_rows.specs.Made.{State, Sized, LinesAgree, Same, Adds}
use Rattle.flatten_rows.proofs.Stays.{same_all, same_less, same_then, agrees_back, agrees_from}

-- a tree stands at another name of its row, with other names of its marks
pub stands_as : (F : Plain) (d : ℕ) (t : Tree) {p q : ℕ} {M N : Marks} → Stands F d t p M → p ≡ q → M ≡ N →
    Stands F d t q N
stands_as F d t {p} {q} {M} {N} s e f =
    subst (λ (K : Marks). Stands F d t q K) f (subst (λ (i : ℕ). Stands F d t i M) e s)

-- the line L is laid from row q to before z
pub record LineMade (w : List ℕ) (res : ℕ → ℕ) (L : C.Line) (X Y : State) (d₀ q z : ℕ) : Type 0 where
  pub some : q < z
  pub end_is : q + line_extent L ≡ z
  pub sized : Sized Y
  pub keeps : Same X Y q (q + 1)
  pub marks_are : line_marks L q (marks_of X.last) ≡ marks_of Y.last
  pub back : note Y.notes z ≡ q
  pub stands_line : (F : Plain) → F.operands ≡ w → LinesAgree Y F q z → (d : ℕ) → d₀ ≤ d →
      StandsLine F d L q (marks_of X.last)
  pub depths_are : line_depths res L (depth_in X.depths) ≡ depth_in Y.depths

-- over the file's operands and the results of the functions
module _ {w : List ℕ} {res : ℕ → ℕ} where
  pub adds_as : {f g : Tree → Tree} {X Y : State} {p q d₀ : ℕ} → Adds w res f X Y p q d₀ →
      ((k : Tree) → f k ≡ g k) → Adds w res g X Y p q d₀
  adds_as {f} {g} {X} {Y} {p} {q} {d₀} a e =
      subst (λ (h : Tree → Tree). Adds w res h X Y p q d₀) (fun_ext e) a

  -- with other names of the row after them and of the levels
  pub adds_to : {f : Tree → Tree} {X Y : State} {p q d₀ : ℕ} (z d : ℕ) → Adds w res f X Y p q d₀ → q ≡ z → d₀ ≤ d →
      Adds w res f X Y p z d
  adds_to {f} {X} {Y} {p} {q} {d₀} z d a e h = subst (λ (i : ℕ). Adds w res f X Y p i d) e (record {
    on = a.on;
    sized = a.sized;
    same = a.same;
    marks = a.marks;
    stands = λ F u g i l. a.stands F u g i (omega arith);
    depths = a.depths;
    shallow = a.shallow;
  })

  pub adds_none : {f : Tree → Tree} {X : State} (p d₀ : ℕ) → Sized X → ((k : Tree) → k ≡ f k) → Adds w res f X X p p d₀
  adds_none {f} {X} p d₀ s e = adds_as {f = λ k. k} (record {
    on = omega arith;
    sized = s;
    same = same_all X p (p + 1);
    marks = λ k. refl;
    stands = λ F u a d h k s. s;
    depths = λ k. refl;
    shallow = λ k s. s;
  }) e

  pub adds_then : {f g : Tree → Tree} {X Y Z : State} {p q z d₀ : ℕ} → Adds w res f X Y p q d₀ →
      Adds w res g Y Z q z d₀ → Adds w res (λ k. f (g k)) X Z p z d₀
  adds_then {f} {g} {p = p} {q = q} a b = record {
    on = omega (arith, a.on, b.on);
    sized = b.sized;
    same = same_then a.same (same_less p (p + 1) b.same a.on (omega (arith, a.on)));
    marks = λ k. a.marks (g k) ∙ b.marks k;
    stands = λ F u h d l k s.
        a.stands F u (agrees_back q (q + 1) h b.same b.on (omega (arith, b.on))) d l (g k)
        (b.stands F u (agrees_from q h a.on) d l k s);
    depths = λ k. a.depths (g k) ∙ b.depths k;
    shallow = λ k s. b.shallow k (a.shallow (g k) s);
  }

  pub adds_line : {L : C.Line} {X Y : State} {q z d₀ : ℕ} → LineMade w res L X Y d₀ q z →
      Adds w res (line L) X Y q z d₀
  unfolding marks tree_depths
  adds_line {z = z} l = record {
    on = omega (arith, l.some);
    sized = l.sized;
    same = l.keeps;
    marks = λ k. rw (l.end_is, l.marks_are);
    stands = λ F u a d h k s. (
      l.stands_line F u a d h,
      rw l.end_is (a.notes z l.some (omega arith) ∙ l.back),
      stands_as F d k s (sym l.end_is) (sym l.marks_are),
    );
    depths = λ k. ap (tree_depths res k) l.depths_are;
    shallow = λ k s. subst (λ (Γ : NameDepths). Shallow res k Γ) l.depths_are s.1;
  }
