-- Retains and releases as they stand in the code.
use Rattle.std.specs.Prelude.{ℕ, ◌+◌, ◌-◌, ◌%◌, true, ◌≡◌, refl, List, ℤ}
use Rattle.prelude.specs.Kit.{arith, ◌∙◌, ap}
use Rattle.semantics.specs.Outcome.{done, onward}
use Rattle.semantics.specs.Store.{cell_of, retained}
use Rattle.semantics.specs.Kinds.{Borrowing}
use Rattle.semantics.specs.Code as K
use Rattle.semantics.specs.Code.{row}
use Rattle.semantics.specs.Live.{Set}
use Rattle.semantics.specs.Annotate.{NameDepths}
use Rattle.semantics.specs.Machine as M
use Rattle.semantics.specs.Machine.{State, Frame, work_line}
use Rattle.semantics.specs.Machine.{retain_word, release_word}
use Rattle.machine_code.specs.Reading.{atom_at, line_of, line_at}
use Rattle.kinds.specs.declared.Atom.TheVariants.{Name}
use Rattle.machine_code.specs.declared.Line.{Line}
use Rattle.machine_code.specs.declared.Line.TheVariants as L
use Rattle.machine_frames.specs.Frames.{word_of}
use Rattle.machine_frames.specs.Work.{Memory, memory, with_store}
use Rattle.machine_lines.specs.Lines.{Doing, released_memory, changing, doing, leaf_done}
use Rattle.machine_spec.specs.Machine.{Code, Work, Callee, line_done}
use Rattle.machine_code.specs.Rows.{Here, line_read}
use Rattle.machine_laws.specs.Frames.{Bounded, FrameAgrees, FrameKept, Framed, kept_none, agrees_kept}
use Rattle.machine_laws.specs.Levels.{LevelsAgree, levels_touched, levels_released}
use Rattle.machine_laws.specs.Levels.{kept_raised}
use Rattle.machine_laws.specs.Same.{Rel, LineDone}

-- a line at a position
module _ (free : ℕ) (callee : M.Callee) (β : Borrowing) (Γ : NameDepths) (c : Code) (calls f : ℕ) (C : Callee)
    (W : Work) (at : ℕ) (A : Set) (R : List ℕ) (ρ : Frame) (s : State) (env : List ℤ) (S : Set) (b : Bounded S)
    (g : FrameAgrees calls env ρ S) (framed : Framed calls f env) (levels : LevelsAgree free s.log env) where
  abbrev here : Memory
  here = memory s.store env

  -- how the line at the position is worked
  abbrev found : Doing
  found = doing c.kinds c.operands c.table calls at here (line_at c.kinds c.operands at)

  module _ (x : ℕ) (known : S x ≡ true) where
    -- a line that leaves a memory, by the cell of x
    changes_same : (change : ℕ → Memory) (n : ℕ) (l : ℕ → Line) → Here c.kinds c.operands at (row n x) →
        line_of n x (atom_at c.kinds c.operands (at + 1)) (atom_at c.kinds c.operands (at + 2))
        ≡ l (x % 256) →
        doing c.kinds c.operands c.table calls at here (l x)
        ≡ changing (change (cell_of (word_of calls env (Name x)))) →
        (s' : State) → s.left ≡ s'.left → (change (cell_of (ρ x))).store ≡ s'.store →
        FrameKept calls env (change (cell_of (ρ x))).env S →
        LevelsAgree free s'.log (change (cell_of (ρ x))).env →
        Rel free (LineDone free (at + 1) calls env S S) (line_done W C c calls at s.left here found) (done ρ s')
    unfolding line_done leaf_done
    changes_same change n l r e d s' left store kept agree =
        rw (
          line_read c.kinds c.operands at n x _ _ (omega (arith, b.below x known)) r.kind r.operand refl
              refl ∙ e ∙ ap l (let z : x % 256 ≡ x = omega (arith, b.below x known) in z),
          d,
          g.agree x known,
        ) (
          refl,
          record {
            next = refl;
            steps = left;
            store = store;
            agrees = agrees_kept calls env (change (cell_of (ρ x))).env ρ S g kept;
            kept = kept;
            levels = agree;
          },
        )

    pub retain_same : Here c.kinds c.operands at (row 14 x) →
        Rel free (LineDone free (at + 1) calls env S S) (line_done W C c calls at s.left here found)
        (work_line callee β Γ (K.retain x) A R ρ s)
    unfolding doing work_line onward retain_word M.with_store
    retain_same r = changes_same (λ k. memory (retained k s.store) env) 14 L.Retain r refl refl _ refl refl
        (kept_none calls env S) (levels_touched levels s.store (cell_of (ρ x)))

    pub release_same : Here c.kinds c.operands at (row 15 x) →
        Rel free (LineDone free (at + 1) calls env S S) (line_done W C c calls at s.left here found)
        (work_line callee β Γ (K.release x) A R ρ s)
    unfolding doing work_line onward release_word M.with_store
    release_same r = changes_same (λ k. released_memory k here) 15 L.Release r refl refl _ refl refl
        (kept_raised calls framed.few S b env _) (levels_released levels (cell_of (ρ x)) s.store framed.long)
