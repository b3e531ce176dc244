-- Laws of the walk of a tree: its end line, and its lines from the last to the first.
use Rattle.prelude.specs.Kit.{ℕ, ◌≤◌, ◌+◌, ◌<◌, ◌-◌, suc, zero, arith, Bool, ◌≡◌, refl, ◌∙◌, sym, ap}
use Rattle.prelude.specs.Kit.{List, [], ◌++◌, append_assoc, ℤ, length, get_or, lt-ltb, le-ltb}
use Rattle.semantics.specs.Kinds.{Borrowing}
use Rattle.semantics.specs.Code.{Row}
use Rattle.semantics.specs.Live.{is, among, ◌∪◌}
use Rattle.semantics.specs.Annotate.{NameDepths}
use Rattle.plain_rows.specs.Plain.{Plain, set_of, meant, placed, line_at, note}
use Rattle.plain_rows.specs.Parts.{ending}
use Rattle.plain_rows.specs.Marks.{marks_of}
use Rattle.plain_rows.specs.Walk.{Point, point, unmarked, unmarked_all, line_walk, back_walk, end_walk, tree_walk}
use Rattle.kinds.specs.declared.Atom.{Atom}
use Rattle.plain_rows.specs.declared.Line.{Line}
use Rattle.plain_rows.proofs.Atoms.{pred_suc}
use Rattle.annotate_rows.specs.Wrote.{Wrote, Room}
use Rattle.annotate_marks.specs.Took.{Took}
use Rattle.annotate_rows.proofs.Rows.{wrote_none, wrote_then, lower}
use Rattle.annotate.specs.Walks.{Walks}
use Rattle.annotate.proofs.Lines.{same_point}

module _ (F : Plain) (B : Borrowing) (Γ : NameDepths) where
  pub end_done : (e : ℕ) (a : Atom) (v : ℕ) → v ≡ get_or F.rows (e + 1) 0 → a ≡ placed F.operands v →
      {s₀ : List Bool} {c c₁ k k₁ : List ℕ} {o o₁ : List ℤ} {w v₁ : ℕ} {s : List Bool} →
      Wrote k o k₁ o₁ w v₁ (ending Γ (meant a) (set_of s₀)) →
      Took (is (meant a) ∪ set_of s₀) (unmarked F.notes (e + 1) (meant a) (marks_of c)) s c₁ →
      Walks (end_walk F B Γ e) s₀ c k o w s c₁ k₁ o₁ v₁
  unfolding end_walk among unmarked_all
  end_done e a v h g {s₀} {c} y t = record {
    added = ending Γ (meant a) (set_of s₀);
    is = λ rs. rw (← h, ← g) (same_point (sym t.names) (sym t.marks) refl);
    wrote = y;
    long = t.long;
  }

  -- a tree with no level left
  pub none_done : (d e : ℕ) → d ≡ 0 → {s₀ : List Bool} {c c₁ k k₁ : List ℕ} {o o₁ : List ℤ} {w v : ℕ} {s : List
      Bool} →
      Walks (end_walk F B Γ e) s₀ c k o w s c₁ k₁ o₁ v → Walks (tree_walk F B Γ d e) s₀ c k o w s c₁ k₁ o₁ v
  unfolding tree_walk
  none_done d e h x = rw h x

  tree_some : (d e : ℕ) (P : Point) → (d ≡ 0 → ⊥) →
      tree_walk F B Γ d e P ≡ back_walk F B Γ (tree_walk F B Γ (d - 1)) 4096 e (end_walk F B Γ e P)
  unfolding tree_walk
  tree_some d e P h = ap (λ (m : ℕ). tree_walk F B Γ m e P) (pred_suc d (omega (arith, h))) ∙ go (d - 1)
    where
      go : (m : ℕ) → tree_walk F B Γ (suc m) e P ≡ back_walk F B Γ (tree_walk F B Γ m) 4096 e (end_walk F B Γ e P)
      go m = refl

  module _ (W : ℕ → Point → Point) where
    back_stops : (n q p : ℕ) (P : Point) → p ≡ note F.notes q → q ≤ p → back_walk F B Γ W n q P ≡ P
    unfolding back_walk
    back_stops zero q p P e h = refl
    back_stops (suc n) q p P e h = rw (← e, le-ltb p q h)

    back_none : (n q : ℕ) (P : Point) → n ≤ 0 → back_walk F B Γ W n q P ≡ P
    unfolding back_walk
    back_none zero q P h = refl
    back_none (suc n) q P h = absurd (let f : ⊥ = omega arith in f)

    back_goes : (n q p : ℕ) (P : Point) → 0 < n → p ≡ note F.notes q → p < q →
        back_walk F B Γ W n q P
        ≡ back_walk F B Γ W (n - 1) p (line_walk F B Γ W p q (line_at F.operands F.rows p) P)
    unfolding back_walk
    back_goes n q p P g e h = ap (λ (m : ℕ). back_walk F B Γ W m q P) (pred_suc n g) ∙ go (n - 1)
      where
        go : (m : ℕ) → back_walk F B Γ W (suc m) q P
            ≡ back_walk F B Γ W m p (line_walk F B Γ W p q (line_at F.operands F.rows p) P)
        go m = rw (← e, lt-ltb p q h)

    -- the walk has come from row q₀ back to row q
    pub record Going (s₀ : List Bool) (c₀ k₀ : List ℕ) (o₀ : List ℤ) (v₀ left₀ q₀ : ℕ)
        (s : List Bool) (c k : List ℕ) (o : List ℤ) (v left q : ℕ) : Type 0 where
      pub added : List Row
      pub rest : (rs : List Row) → back_walk F B Γ W left₀ q₀ (point (set_of s₀) (marks_of c₀) rs)
          ≡ back_walk F B Γ W left q (point (set_of s) (marks_of c) (added ++ rs))
      pub wrote : Wrote k₀ o₀ k o v₀ v added
      pub long : length c ≡ 256
      pub room : Room k o v
      pub near : q ≤ 4096
      pub few : left ≤ 4096

    pub going_none : {s : List Bool} {c k : List ℕ} {o : List ℤ} {v left q : ℕ} → length c ≡ 256 → Room k o v →
        q ≤ 4096 → left ≤ 4096 → Going s c k o v left q s c k o v left q
    going_none l m h i = record {
      added = [];
      rest = λ rs. refl;
      wrote = wrote_none;
      long = l;
      room = m;
      near = h;
      few = i;
    }

    module _ {s₀ : List Bool} {c₀ k₀ : List ℕ} {o₀ : List ℤ} {v₀ left₀ q₀ : ℕ}
        {s : List Bool} {c k : List ℕ} {o : List ℤ} {v left q : ℕ}
        (a : Going s₀ c₀ k₀ o₀ v₀ left₀ q₀ s c k o v left q) where
      pub going_more : (p : ℕ) (l : Line) {s₁ : List Bool} {c₁ k₁ : List ℕ} {o₁ : List ℤ} {v₁ : ℕ} → 0 < left →
          p ≡ note F.notes q → p < q → l ≡ line_at F.operands F.rows p →
          Walks (line_walk F B Γ W p q l) s c k o v s₁ c₁ k₁ o₁ v₁ →
          Going s₀ c₀ k₀ o₀ v₀ left₀ q₀ s₁ c₁ k₁ o₁ v₁ (left - 1) p
      going_more p l {s₁} {c₁} g f h m d = record {
        added = d.added ++ a.added;
        rest = λ rs.
            a.rest rs
            ∙ back_goes left q p (point (set_of s) (marks_of c) (a.added ++ rs)) g f h
            ∙ ap (λ (n : Line). back_walk F B Γ W (left - 1) p (line_walk F B Γ W p q n
            (point (set_of s) (marks_of c) (a.added ++ rs)))) (sym m)
            ∙ ap (back_walk F B Γ W (left - 1) p) (d.is (a.added ++ rs))
            ∙ ap (λ (qs : List Row). back_walk F B Γ W (left - 1) p (point (set_of s₁) (marks_of c₁) qs))
            (sym (append_assoc d.added a.added rs));
        wrote = wrote_then a.wrote d.wrote;
        long = d.long;
        room = lower d.wrote a.room;
        near = omega (arith, a.near);
        few = omega (arith, a.few);
      }

      -- the walk from q₀ on is at its end
      finished : ((P : Point) → back_walk F B Γ W left q P ≡ P) → (rs : List Row) →
          back_walk F B Γ W left₀ q₀ (point (set_of s₀) (marks_of c₀) rs)
          ≡ point (set_of s) (marks_of c) (a.added ++ rs)
      finished h rs = a.rest rs ∙ h (point (set_of s) (marks_of c) (a.added ++ rs))

      pub going_stops : (p : ℕ) → p ≡ note F.notes q → q ≤ p → (rs : List Row) →
          back_walk F B Γ W left₀ q₀ (point (set_of s₀) (marks_of c₀) rs) ≡ point (set_of s) (marks_of c) (a.added
          ++ rs)
      going_stops p f h rs = finished (λ P. back_stops left q p P f h) rs

      pub going_ends : left ≤ 0 → (rs : List Row) →
          back_walk F B Γ W left₀ q₀ (point (set_of s₀) (marks_of c₀) rs) ≡ point (set_of s) (marks_of c) (a.added
          ++ rs)
      going_ends h rs = finished (λ P. back_none left q P h) rs

  -- a tree: its end line, then its lines
  pub tree_done : (d e : ℕ) → (d ≡ 0 → ⊥) → {s s₀ s₁ : List Bool} {c c₀ c₁ k k₀ k₁ : List ℕ} {o o₀ o₁ : List ℤ}
      {w v₀ v left q : ℕ} → Walks (end_walk F B Γ e) s c k o w s₀ c₀ k₀ o₀ v₀ →
      (a : Going (tree_walk F B Γ (d - 1)) s₀ c₀ k₀ o₀ v₀ 4096 e s₁ c₁ k₁ o₁ v left q) →
      ((rs : List Row) → back_walk F B Γ (tree_walk F B Γ (d - 1)) 4096 e (point (set_of s₀) (marks_of c₀) rs)
      ≡ point (set_of s₁) (marks_of c₁) (a.added ++ rs)) →
      Walks (tree_walk F B Γ d e) s c k o w s₁ c₁ k₁ o₁ v
  tree_done d e h {s} {s₀} {s₁} {c} {c₀} {c₁} x a f = record {
    added = a.added ++ x.added;
    is = λ rs.
        tree_some d e (point (set_of s) (marks_of c) rs) h
        ∙ ap (back_walk F B Γ (tree_walk F B Γ (d - 1)) 4096 e) (x.is rs)
        ∙ f (x.added ++ rs)
        ∙ ap (point (set_of s₁) (marks_of c₁)) (sym (append_assoc a.added x.added rs));
    wrote = wrote_then x.wrote a.wrote;
    long = a.long;
  }
