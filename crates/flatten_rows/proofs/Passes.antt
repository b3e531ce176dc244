-- Laws of a loop's tree in the descent: what the names of a pass mean there, the room for it, and what is laid with it.
use Rattle.prelude.specs.Kit.{ℕ, ◌≤◌, ◌+◌, ◌<◌, suc, arith, ℕ_discrete, true, ◌≡◌, refl, ◌∙◌, ap, List, length, get_or}
use Rattle.prelude.specs.Kit.{set, length-set, set-set, ne_eqb}
use Rattle.semantics.specs.Basics.{updated}
use Rattle.semantics.specs.Syntax.{Expr}
use Rattle.semantics.specs.Code as C
use Rattle.semantics.specs.Code.{line}
use Rattle.semantics.specs.Normal.{Meanings, meaning_names}
use Rattle.script_read.specs.Told.{second_name}
use Rattle.plain_rows.specs.Plain.{packed_row, is_looping, loop_of, loop_size, of_loop}
use Rattle.plain_rows.proofs.Rows.{no_reduce}
use Rattle.flatten_rows.specs.Laid.{laid, noted, LineLaid, firsts, placed_all, meanings, place_depth, pass_places}
use Rattle.flatten_rows.specs.Laid.{loop_place, third_of}
use Rattle.flatten_rows.specs.Source.{laid_rows}
use Rattle.flatten_rows.specs.Made.{Lays, Opens, state, Given, loop_line, Ready, PassReady, TreeMade, Adds}
use Rattle.flatten_rows.specs.declared.Out.{Out}
use Rattle.flatten_rows.proofs.Trees.{name_placed}
use Rattle.flatten_rows.proofs.Loops.{loop_ready, loop_shallow, loop_adds}
use Rattle.flatten_rows.proofs.Members.{meanings_set}

-- ---- what the written names mean in a pass

-- the table in a pass, where the names after n are those of the pass
abbrev pub bound_table : List ℕ → ℕ → ℕ → ℕ → ℕ → List ℕ
bound_table ps kind low high n = set (set ps low (n + 1)) (second_name kind low high) (n + loop_size (loop_of kind))

pub given_bound_twice : {k w ps : List ℕ} (ps₁ : List ℕ) (x u y v : ℕ) → Given k w ps → ps₁ ≡ set (set ps x u) y v →
    Given k w ps₁
given_bound_twice {ps = ps} ps₁ x u y v g e = record {
  parts = g.parts;
  long = ap length e ∙ length-set (set ps x u) y v ∙ length-set ps x u ∙ g.long;
}

module _ (w ps : List ℕ) (low high n : ℕ) (long : length ps ≡ 256) (low_in : low < 256) (high_in : high < 256) where
  named : (x v : ℕ) → x < 256 → v < 256 → (qs : List ℕ) → length qs ≡ 256 →
      meanings w (set qs x v) ≡ updated (meanings w qs) x (C.name v)
  named x v h g qs l = meanings_set w qs x v (omega arith) ∙ ap (updated (meanings w qs) x) (name_placed w v g)

  first_bound : n + 1 < 256 → meanings w (set ps low (n + 1)) ≡ updated (meanings w ps) low (C.name (n + 1))
  first_bound h = named low (n + 1) low_in h ps long

  pub pass_means : (kind : ℕ) → n + loop_size (loop_of kind) < 256 →
      meanings w (bound_table ps kind low high n)
      ≡ meaning_names (of_loop (loop_of kind) low high) (n + 1) (meanings w ps)
  pass_means kind h = go (ℕ_discrete kind 20)
    where
      go : Dec (kind ≡ 20) → meanings w (bound_table ps kind low high n)
          ≡ meaning_names (of_loop (loop_of kind) low high) (n + 1) (meanings w ps)
      go (yes e) =
          let f : n + 2 ≡ suc (n + 1) = omega arith in
          let g : n + 2 < 256 = rw e at h in
          rw (e, f) (named high (suc (n + 1)) high_in (omega arith) (set ps low (n + 1))
          (length-set ps low (n + 1) ∙ long)
          ∙ ap (λ (μ : Meanings). updated μ high (C.name (suc (n + 1)))) (first_bound (omega arith)))
      go (no f) =
          no_reduce (λ k. n + loop_size k < 256 → meanings w (set (set ps low (n + 1)) (second_name kind low high)
          (n + loop_size k)) ≡ meaning_names (of_loop k low high) (n + 1) (meanings w ps)) kind f once once once h
        where
          once : n + 1 < 256 → meanings w (set (set ps low (n + 1)) (second_name kind low high) (n + 1))
              ≡ updated (meanings w ps) low (C.name (n + 1))
          once g =
              rw (ne_eqb kind 20 f)
              (ap (meanings w) (set-set ps low (n + 1) (n + 1)) ∙ first_bound g)

-- ---- the tree of a pass

module _ (w : List ℕ) (res : ℕ → ℕ) (kind low high : ℕ) (vs ps : List ℕ) {b : Expr} {rows notes depths last : List ℕ}
    {n p end : ℕ} (looping : is_looping kind ≡ true)
    (ready : PassReady res (meanings w ps) (state rows notes depths last) (loop_of kind) low high
    (placed_all w (firsts vs 0 (loop_size (loop_of kind)))) b end n p) where
  abbrev m : ℕ
  m = loop_size (loop_of kind)

  pub pass_place : (n + m < 256) × (p < 2040)
  pass_place = (omega (arith, ready.names), omega (arith, ready.rows))

  -- the notes after the loop's row and its atoms
  abbrev head_notes : List ℕ
  head_notes = noted notes last (p + 1) (firsts vs 0 m)

  module _ {rows₁ notes₁ depths₁ last₁ : List ℕ}
      (l : LineLaid rows notes last rows₁ head_notes last₁ p (packed_row kind n (n + 1) (third_of (loop_of kind) n))
      (firsts vs 0 m))
      (e : notes₁ ≡ set head_notes (p + 1 + m) (p + 1 + m))
      (f : depths₁ ≡ laid depths (n + 1) (pass_places (loop_of kind) depths (get_or vs 0 0) (get_or vs 1 0))) where
    pass_head : Lays (state rows notes depths last) (state rows₁ head_notes depths last₁) p
        (packed_row kind n (n + 1) (third_of (loop_of kind) n)) (firsts vs 0 m)
    pass_head = record { line = l; depths = refl }

    pass_opens : Opens (state rows₁ head_notes depths last₁) (state rows₁ notes₁ depths₁ last₁) (p + 1 + m) (n + 1)
        (pass_places (loop_of kind) depths (get_or vs 0 0) (get_or vs 1 0))
    pass_opens = record { rows = refl; notes = e; last = refl; depths = f }

    module _ (ps₁ : List ℕ) (long : length ps ≡ 256) (low_in : low < 256) (high_in : high < 256)
        (bound : ps₁ ≡ bound_table ps kind low high n) where
      means : meanings w ps₁ ≡ meaning_names (of_loop (loop_of kind) low high) (n + 1) (meanings w ps)
      means = ap (meanings w) bound ∙ pass_means w ps low high n long low_in high_in kind pass_place.0

      pub pass_tree : Ready res (meanings w ps₁) (state rows₁ notes₁ depths₁ last₁) b end (n + 1 + m) (p + 1 + m)
      pass_tree = rw means (loop_ready w res kind low high vs looping ready pass_head pass_opens)

      module _ {rows₂ notes₂ depths₂ last₂ : List ℕ} {d : ℕ} {rt : Out}
          (T₀ : TreeMade w res b (meanings w ps₁) (state rows₁ notes₁ depths₁ last₁)
          (state rows₂ notes₂ depths₂ last₂) (n + 1 + m) (p + 1 + m) d end rt) where
        T : TreeMade w res b (meaning_names (of_loop (loop_of kind) low high) (n + 1) (meanings w ps))
            (state rows₁ notes₁ depths₁ last₁) (state rows₂ notes₂ depths₂ last₂) (n + 1 + m) (p + 1 + m) d end rt
        T = rw means at T₀

        pub pass_deep : (kind ≡ 19 → ⊥) → (kind ≡ 20 → ⊥) → place_depth depths₂ rt.place ≤ 3
        pass_deep = loop_shallow w res kind low high vs looping ready pass_head pass_opens T

        pub pass_laid : {notes₃ depths₃ : List ℕ} (v : ℕ) →
            v ≡ loop_place (loop_of kind) depths₂ (get_or vs 0 0) rt.place → notes₃ ≡ set notes₂ rt.after.p p →
            depths₃ ≡ set depths₂ n v →
            Adds w res (line (loop_line (loop_of kind) low high (meanings w ps) n (placed_all w (firsts vs 0 m)) b))
            (state rows notes depths last) (state rows₂ notes₃ depths₃ last₂) p (p + 1 + m + laid_rows b + 2) (d + 1)
        pass_laid v ve g h =
            rw (← T₀.reach) (loop_adds w res kind low high vs looping ready pass_head pass_opens T
            (record { rows = refl; notes = g; last = refl; depths = h }) ve)
