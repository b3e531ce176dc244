-- Laws of laying trees: numbers, names, lets and trees of their own.
use Rattle.prelude.specs.Kit.{ℕ, ◌≤◌, ◌+◌, ◌<◌, arith, dec_lt, ◌≡◌, refl, ◌∙◌, sym, ap, subst, List, [], ◌∷◌, ℤ, lt-ltb}
use Rattle.prelude.specs.Kit.{le-ltb}
use Rattle.semantics.specs.Basics.{updated}
use Rattle.semantics.specs.Syntax as S
use Rattle.semantics.specs.Syntax.{Expr, Exprs}
use Rattle.semantics.specs.Code as C
use Rattle.semantics.specs.Code.{Tree, end, ending}
use Rattle.semantics.specs.Normal.{Meanings, fresh, atom, lines, all_lines, normal}
use Rattle.semantics.specs.Annotate.{atom_depth, tree_depths}
use Rattle.plain_rows.specs.Plain.{Plain, meant, placed, packed_row}
use Rattle.plain_rows.specs.Parts.{depth_in}
use Rattle.plain_rows.specs.Marks.{marks_of, marks, marked, marked_all}
use Rattle.plain_rows.specs.Stands.{Stands, Linked}
use Rattle.flatten_rows.specs.Laid.{place_depth}
use Rattle.flatten_rows.specs.Source.{laid_rows}
use Rattle.flatten_rows.specs.Made.{State, Lays, Sized, RowsAgree, Made, TreeMade, out}
use Rattle.flatten_rows.specs.declared.Out.{Out}
use Rattle.flatten_rows.proofs.Widths.{normal_extent}
use Rattle.flatten_rows.proofs.Stays.{same_less, same_then, same_lays, agrees_back}
use Rattle.flatten_rows.proofs.Stays.{marks_laid, row_laid, linked_laid, sized_lays}
use Rattle.flatten_rows.proofs.Adds.{adds_to, adds_none, adds_then}

-- ---- depths and atoms

pub place_atom : (w d : List ℕ) (v : ℕ) → place_depth d v ≡ atom_depth (depth_in d) (meant (placed w v))
unfolding placed
place_atom w d v = go (dec_lt v 256)
  where
    go : Dec (v < 256) → place_depth d v ≡ atom_depth (depth_in d) (meant (placed w v))
    go (yes h) = rw (lt-ltb v 256 h)
    go (no f) = rw (le-ltb v 256 (omega (arith, f)))

pub name_placed : (w : List ℕ) (x : ℕ) → x < 256 → meant (placed w x) ≡ C.name x
unfolding placed
name_placed w x h = rw (lt-ltb x 256 h)

-- the atom that the lines of a tree give is that of what follows them
mutual
  unfolding lines ending

  lines_ending : (e : Expr) (μ : Meanings) (n : ℕ) (k : Tree) → ending (lines e μ n k) ≡ ending k
  lines_ending (S.number z) μ n k = refl
  lines_ending (S.name x) μ n k = refl
  lines_ending (S.let_in x a b) μ n k = lines_ending a μ n _ ∙ lines_ending b (updated μ x (atom a μ n))
      (n + fresh a) k
  lines_ending (S.leaf l es) μ n k = all_ending es μ n _
  lines_ending (S.if_else a b c) μ n k = lines_ending a μ n _
  lines_ending (S.loop j xs es b) μ n k = all_ending es μ n _

  all_ending : (es : Exprs) (μ : Meanings) (n : ℕ) (k : Tree) → ending (all_lines es μ n k) ≡ ending k
  all_ending S.none μ n k = refl
  all_ending (S.more e es) μ n k = lines_ending e μ n _ ∙ all_ending es μ (n + fresh e) k

pub normal_ending : (e : Expr) (μ : Meanings) (n : ℕ) → ending (normal e μ n) ≡ atom e μ n
unfolding normal ending
normal_ending e μ n = lines_ending e μ n (end (atom e μ n))

-- over the file's operands and the results of the functions
module _ (w : List ℕ) (res : ℕ → ℕ) where
  -- a tree without lines
  made_atom : (e : Expr) (μ : Meanings) (X : State) (n p d₀ last v : ℕ) → fresh e ≡ 0 → laid_rows e ≡ 0 →
      ((t : Tree) → lines e μ n t ≡ t) → Sized X → meant (placed w v) ≡ atom e μ n →
      Made w res e μ X X n p d₀ last (out v last n p)
  made_atom e μ X n p d₀ last v f g h s i = record {
    next = refl;
    count = omega (arith, f);
    reach = omega (arith, g);
    gives = i;
    adds = adds_none p d₀ s (λ k. sym (h k));
  }

  pub made_number : (z : ℤ) (μ : Meanings) (X : State) (n p d₀ last v : ℕ) → Sized X →
      meant (placed w v) ≡ C.number z → Made w res (S.number z) μ X X n p d₀ last (out v last n p)
  unfolding fresh atom lines laid_rows
  made_number z μ X n p d₀ last v s e = made_atom (S.number z) μ X n p d₀ last v refl refl (λ t. refl) s e

  pub made_name : (x : ℕ) (μ : Meanings) (X : State) (n p d₀ last v : ℕ) → Sized X → meant (placed w v) ≡ μ x →
      Made w res (S.name x) μ X X n p d₀ last (out v last n p)
  unfolding fresh atom lines laid_rows
  made_name x μ X n p d₀ last v s e = made_atom (S.name x) μ X n p d₀ last v refl refl (λ t. refl) s e

  -- ---- a let
  pub made_let : {a b : Expr} {μ : Meanings} (ν : Meanings) {X X₁ X₂ : State} {n p d₀ l₁ l₂ : ℕ} {ra rb : Out}
      (x : ℕ) →
      Made w res a μ X X₁ n p d₀ l₁ ra → ν ≡ updated μ x (meant (placed w ra.place)) → Made w res b ν X₁ X₂
      ra.after.n ra.after.p d₀ l₂ rb →
      Made w res (S.let_in x a b) μ X X₂ n p (d₀ + 1) l₂ rb
  unfolding fresh atom lines laid_rows
  made_let {a} {b} {μ} ν {X} {X₁} {X₂} {n} {p} {d₀} {l₁} {l₂} {ra} {rb} x A e B₀ =
      go (rw (e ∙ ap (updated μ x) A.gives, A.count) at B₀)
    where
      go : Made w res b (updated μ x (atom a μ n)) X₁ X₂ (n + fresh a) ra.after.p d₀ l₂ rb → Made w res (S.let_in x a
          b) μ X X₂ n p (d₀ + 1) l₂ rb
      go B = record {
        next = B.next;
        count = omega (arith, A.count, B.count);
        reach = omega (arith, A.reach, B.reach);
        gives = B.gives;
        adds = adds_to rb.after.p (d₀ + 1) (adds_then A.adds B.adds) refl (omega arith);
      }

  -- ---- a tree of its own
  module _ {e : Expr} {μ : Meanings} {X Y Z : State} {n p d₀ last : ℕ} {r : Out}
      (A : Made w res e μ X Y n p d₀ last r) (l : Lays Y Z r.after.p (packed_row 16 0 0 0) (r.place ∷ []))
      (s : r.after.p ≤ 2040) where
    end_there : (F : Plain) → F.operands ≡ w → RowsAgree Z F p (r.after.p + 2) → (d : ℕ) →
        Stands F d (end (atom e μ n)) r.after.p (marks_of Y.last)
    end_there F u a d = (
      (
        ap (λ (v : ℕ). meant (placed F.operands v))
            (row_laid l A.adds.sized F here (omega (arith, A.reach)) (omega arith) 1 (r.after.p + 1) refl (omega
            arith))
            ∙ ap (λ (o : List ℕ). meant (placed o r.place)) u ∙ A.gives,
        omega (
          arith,
          row_laid l A.adds.sized F here (omega (arith, A.reach)) (omega arith) 0 r.after.p (omega arith) (omega
              arith),
        ),
      ),
      subst (λ (b : C.Atom). Linked F b (r.after.p + 1) (marks_of Y.last)) A.gives
          (linked_laid l A.adds.sized F here (omega (arith, A.reach)) (omega arith) w).0,
    )
      where
        here : RowsAgree Z F p (r.after.p + 1 + 1)
        here = let f : r.after.p + 2 ≡ r.after.p + 1 + 1 = omega arith in rw f at a

    pub tree_made : TreeMade w res e μ X Z n p d₀ last (out r.place r.after.node r.after.n (r.after.p + 2))
    unfolding normal tree_depths marks marked_all
    tree_made = record {
      next = A.next;
      count = A.count;
      reach = omega (arith, A.reach);
      sized = sized_lays A.adds.sized l;
      gives = A.gives;
      same = same_then A.adds.same
          (same_less p (p + 1) (same_lays l) (omega (arith, A.reach)) (omega (arith, A.reach)));
      marks = marks_laid l A.adds.sized w
          ∙ ap (λ (b : C.Atom). marked b (r.after.p + 1) (marks_of Y.last)) A.gives
          ∙ sym (A.adds.marks (end (atom e μ n)));
      wide = normal_extent e μ n;
      stands = λ F u a d h.
          A.adds.stands F u (agrees_back r.after.p (r.after.p + 1) a (same_lays l) (omega arith) (omega arith)) d h
          (end (atom e μ n)) (end_there F u a d);
      depths = A.adds.depths (end (atom e μ n)) ∙ ap depth_in (sym l.depths);
    }
