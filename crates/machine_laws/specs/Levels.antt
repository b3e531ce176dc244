-- The levels among the frames are those of a log, while no more cells are free than a store has.
use Rattle.std.specs.Prelude.{ℕ, ◌≤◌, ◌+◌, ◌<◌, ◌-◌, ◌*◌, ◌%◌, min, true, false, Bool, cond, ◌≡◌, refl, List, [], ◌∷◌}
use Rattle.std.specs.Prelude.{◌++◌, ltb, ℤ, pos, length, get_or, set}
use Rattle.prelude.specs.Kit.{arith, ◌∙◌, sym, ap, subst, ap₂, append-nil, length-set, get_or-set_other}
use Rattle.prelude.specs.Kit.{get_or-set_same, ltb-true, ltb-false}
use Rattle.semantics.specs.Store.{Store, released, deepest, cells_taken}
use Rattle.semantics.specs.Live.{Set}
use Rattle.semantics.specs.Machine.{Event, acquires, touching, release_events, level_after, lowest_over}
use Rattle.laws.specs.Levels.{LevelsUpTo, level_append, lowest_append, up_to_first, up_to_last, lowest_last}
use Rattle.laws.specs.Levels.{touching_level, touching_lowest, release_level, release_lowest}
use Rattle.machine_code.specs.Reading.{low_bits}
use Rattle.machine_frames.specs.Frames.{frame_words}
use Rattle.machine_frames.specs.Frames.{level_place, lowest_place, level_of, lowest_of, levelled, noted, raised}
use Rattle.machine_laws.specs.Frames.{Bounded, FrameKept, kept_then}

-- n cells were free before the log
pub record LevelsAgree (n : ℕ) (log : List Event) (env : List ℤ) : Type 0 where
  pub level : LevelsUpTo 256 log n → level_of env ≡ level_after log n
  pub lowest : LevelsUpTo 256 log n → lowest_of env ≡ lowest_over log n

-- ---- words at other places

module _ {n : ℕ} {log : List Event} {env : List ℤ} (h : LevelsAgree n log env) where
  pub levels_set : (p : ℕ) (w : ℤ) → p < level_place → LevelsAgree n log (set env p w)
  levels_set p w small = record {
    level = λ up. ap low_bits (get_or-set_other env p level_place w (pos 0) (λ e. absurd (omega (arith, e, small))))
        ∙ h.level up;
    lowest = λ up. ap low_bits (get_or-set_other env p lowest_place w (pos 0) (λ e. absurd (omega (arith, e, small))))
        ∙ h.lowest up;
  }

  -- ---- events

  -- events over which no level is lower than before them
  pub lowest_kept : (events : List Event) → ((k : ℕ) → lowest_over events k ≡ k) → LevelsUpTo 256 (log ++ events) n →
      lowest_of env ≡ lowest_over (log ++ events) n
  lowest_kept events least up = h.lowest (up_to_first 256 log events n up)
      ∙ omega (arith, lowest_append log events n, least (level_after log n), lowest_last log n)

  pub levels_nothing : LevelsAgree n (log ++ []) env
  levels_nothing = subst (λ (l : List Event). LevelsAgree n l env) (sym (append-nil log)) h

  pub levels_touched : (σ : Store) (c : ℕ) → LevelsAgree n (log ++ touching σ c) env
  levels_touched σ c = record {
    level = λ up. h.level (up_to_first 256 log (touching σ c) n up)
        ∙ sym (level_append log (touching σ c) n ∙ touching_level σ c (level_after log n));
    lowest = lowest_kept (touching σ c) (touching_lowest σ c);
  }

  -- a cell is acquired
  pub levels_acquired : (c : ℕ) → frame_words ≤ length env →
      LevelsAgree n (log ++ (acquires c ∷ [])) (noted (level_of env - 1) env)
  unfolding noted level_after lowest_over
  levels_acquired c long = record { level = λ up. by_level up; lowest = λ up. by_lowest up }
    where
      k : ℕ
      k = level_of env - 1

      after : List ℤ
      after = set env level_place (pos k)

      first : LevelsUpTo 256 (log ++ (acquires c ∷ [])) n → LevelsUpTo 256 log n
      first up = up_to_first 256 log (acquires c ∷ []) n up

      few : LevelsUpTo 256 (log ++ (acquires c ∷ [])) n → level_of env ≤ 256
      few up = omega (arith, h.level (first up), up_to_last 256 log n (first up))

      there : get_or after level_place (pos 0) ≡ pos k
      there = get_or-set_same env level_place (pos k) (pos 0) (omega (arith, long))

      written : (t : Bool) → get_or (cond t (levelled k env) after) level_place (pos 0) ≡ pos k
      written true = get_or-set_other after lowest_place level_place (pos k) (pos 0) (λ e. absurd (omega (arith, e)))
          ∙ there
      written false = there

      by_level : LevelsUpTo 256 (log ++ (acquires c ∷ [])) n →
          level_of (cond (ltb k (lowest_of env)) (levelled k env) after) ≡ level_after (log ++ (acquires c ∷ [])) n
      by_level up =
          ap low_bits (written (ltb k (lowest_of env)))
          ∙ (let small : k % 16777216 ≡ k = omega (arith, few up) in small)
          ∙ ap (λ (j : ℕ). j - 1) (h.level (first up)) ∙ sym (level_append log (acquires c ∷ []) n)

      least : LevelsUpTo 256 (log ++ (acquires c ∷ [])) n → (t : Bool) → ltb k (lowest_of env) ≡ t →
          lowest_of (cond t (levelled k env) after) ≡ min (lowest_of env) k
      least up true e =
          ap low_bits (get_or-set_same after lowest_place (pos k) (pos 0)
          (omega (arith, long, length-set env level_place (pos k))))
          ∙ (let small : k % 16777216 ≡ min (lowest_of env) k = omega (arith, few up, ltb-true k (lowest_of env) e)
          in small)
      least up false e =
          ap low_bits (get_or-set_other env level_place lowest_place (pos k) (pos 0) (λ z. absurd (omega (arith, z))))
          ∙ omega (arith, ltb-false k (lowest_of env) e)

      by_lowest : LevelsUpTo 256 (log ++ (acquires c ∷ [])) n →
          lowest_of (cond (ltb k (lowest_of env)) (levelled k env) after) ≡ lowest_over (log ++ (acquires c ∷ [])) n
      by_lowest up =
          least up (ltb k (lowest_of env)) refl
          ∙ ap₂ min (h.lowest (first up)) (ap (λ (j : ℕ). j - 1) (h.level (first up)))
          ∙ (let e = lowest_append log (acquires c ∷ []) n in
          let z : min (lowest_over log n) (level_after log n - 1) ≡ lowest_over (log ++ (acquires c ∷ [])) n =
          omega (arith, e) in z)

  -- a cell is released down to its last element
  pub levels_released : (c : ℕ) (σ : Store) → frame_words ≤ length env →
      LevelsAgree n (log ++ release_events deepest c σ)
      (raised (cells_taken σ - cells_taken (released deepest c σ)) env)
  unfolding raised
  levels_released c σ long = record { level = λ up. by_level up; lowest = λ up. by_lowest up }
    where
      events : List Event
      events = release_events deepest c σ

      k : ℕ
      k = level_of env + (cells_taken σ - cells_taken (released deepest c σ))

      is_level : LevelsUpTo 256 (log ++ events) n → k ≡ level_after (log ++ events) n
      is_level up =
          ap (λ (j : ℕ). j + (cells_taken σ - cells_taken (released deepest c σ)))
          (h.level (up_to_first 256 log events n up))
          ∙ sym (level_append log events n ∙ release_level deepest c σ (level_after log n))

      by_level : LevelsUpTo 256 (log ++ events) n →
          level_of (set env level_place (pos k)) ≡ level_after (log ++ events) n
      by_level up =
          ap low_bits (get_or-set_same env level_place (pos k) (pos 0) (omega (arith, long)))
          ∙ (let small : k % 16777216 ≡ k = omega (arith, is_level up, up_to_last 256 (log ++ events) n up) in small)
          ∙ is_level up

      by_lowest : LevelsUpTo 256 (log ++ events) n →
          lowest_of (set env level_place (pos k)) ≡ lowest_over (log ++ events) n
      by_lowest up =
          ap low_bits (get_or-set_other env level_place lowest_place (pos k) (pos 0) (λ z. absurd (omega (arith, z))))
          ∙ lowest_kept events (release_lowest deepest c σ) up

-- the readings' cell is acquired
pub levels_started : (n c : ℕ) (env : List ℤ) → frame_words ≤ length env →
    LevelsAgree n (acquires c ∷ []) (levelled (n - 1) env)
unfolding level_after lowest_over
levels_started n c env long = record {
  level = λ up. ap low_bits (get_or-set_other (set env level_place (pos k)) lowest_place level_place (pos k) (pos 0)
      (λ e. absurd (omega (arith, e))) ∙ get_or-set_same env level_place (pos k) (pos 0) (omega (arith, long)))
      ∙ (let small : k % 16777216 ≡ k = omega (arith, up.0) in small);
  lowest = λ up. ap low_bits (get_or-set_same (set env level_place (pos k)) lowest_place (pos k) (pos 0)
      (omega (arith, long, length-set env level_place (pos k))))
      ∙ (let small : k % 16777216 ≡ min n k = omega (arith, up.0) in small);
}
  where
    k : ℕ
    k = n - 1

-- ---- the frames that levels leave

module _ (calls : ℕ) (few : calls ≤ 31) (S : Set) (b : Bounded S) where
  -- a word that is written past the frames and their functions
  kept_past : (env : List ℤ) (p : ℕ) (w : ℤ) → level_place ≤ p → FrameKept calls env (set env p w) S
  kept_past env p w past = record {
    names = λ y e. get_or-set_other env p (256 * calls + y) w (pos 0)
        (λ q. absurd (omega (arith, q, past, few, b.below y e)));
    callers = λ q h l. get_or-set_other env p q w (pos 0) (λ e. absurd (omega (arith, e, l, past)));
    functions = λ k h l. get_or-set_other env p (8192 + k) w (pos 0) (λ e. absurd (omega (arith, e, l, past)));
    long = length-set env p w;
  }

  pub kept_noted : (env : List ℤ) (n : ℕ) → FrameKept calls env (noted n env) S
  unfolding noted
  kept_noted env n = go (ltb n (lowest_of env))
    where
      first : FrameKept calls env (set env level_place (pos n)) S
      first = kept_past env level_place (pos n) (omega arith)

      go : (t : Bool) → FrameKept calls env (cond t (levelled n env) (set env level_place (pos n))) S
      go true = kept_then calls env (set env level_place (pos n)) (levelled n env) S S (λ x e. e) first
          (kept_past (set env level_place (pos n)) lowest_place (pos n) (omega arith))
      go false = first

  pub kept_raised : (env : List ℤ) (k : ℕ) → FrameKept calls env (raised k env) S
  unfolding raised
  kept_raised env k = kept_past env level_place (pos (level_of env + k)) (omega arith)
