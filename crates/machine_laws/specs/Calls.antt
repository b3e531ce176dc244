-- Calls: the machine over positions, with some call depth left, is the machine of the definitions.
use Rattle.std.specs.Prelude.{ℕ, ◌≤◌, ◌+◌, ◌<◌, suc, zero, ◌*◌, ◌%◌, true, false, Bool, cond, ◌≡◌, refl, List, []}
use Rattle.std.specs.Prelude.{◌∷◌, eqb, ℤ, pos, length, get_or, set}
use Rattle.prelude.specs.Kit.{arith, ℕ_discrete, ◌∙◌, sym, ap, length-set, get_or-set_other, get_or-set_same, ne_eqb}
use Rattle.prelude.specs.Kit.{eq-eqb}
use Rattle.semantics.specs.Basics.{updated}
use Rattle.semantics.specs.Outcome.{stop}
use Rattle.semantics.specs.Code.{rows}
use Rattle.semantics.specs.Live.{Set, ◌∪◌, only, empty, just}
use Rattle.semantics.specs.Machine.{Event, State, Program, routine_of, framed, machine}
use Rattle.laws.specs.Tests.{or_right}
use Rattle.discipline.proofs.machine.Discipline.{Fitting, AllNew, Scoped}
use Rattle.machine_code.specs.Reading.{low_bits, name_at, depth_in}
use Rattle.machine_code.proofs.Reading.{no_bool}
use Rattle.machine_frames.specs.Frames.{frame_words, place, function_place, put_named, called}
use Rattle.machine_frames.specs.Work.{memory, Ran}
use Rattle.machine_spec.specs.Machine.{Code, parameters_in, names_in, tree_in, call_on, tree_on}
use Rattle.machine_spec.specs.Lengths.{put_keeps, called_keeps}
use Rattle.machine_code.specs.Rows.{At, NamesAt, tree_there}
use Rattle.machine_laws.specs.Ends.{Jumps}
use Rattle.machine_laws.specs.Frames.{Bounded, FrameAgrees, Framed}
use Rattle.machine_laws.specs.Levels.{LevelsAgree, levels_set}
use Rattle.machine_laws.specs.Same.{CalleeSame, Rel, TreeDone, CallDone, rel_map}
use Rattle.machine_laws.specs.Trees.{tree_same}

-- ---- the words of the arguments

-- a name that is known is none of the new ones
new_apart : (xs : List ℕ) (S : Set) (y : ℕ) → AllNew xs S → S y ≡ true → just xs y ≡ false
new_apart [] S y h e = refl
new_apart (x ∷ xs) S y h e = go (ℕ_discrete x y) (new_apart xs (S ∪ only x) y h.1 (rw e refl))
  where
    go : Dec (x ≡ y) → just xs y ≡ false → just (x ∷ xs) y ≡ false
    go (yes q) rest = absurd (no_bool (sym e ∙ ap S (sym q) ∙ h.0.unknown))
    go (no q) rest = rw (ne_eqb x y q) rest

bounded_names : (xs : List ℕ) (S : Set) → AllNew xs S → Bounded (just xs)
bounded_names [] S h = record { below = λ y e. absurd (no_bool (sym e)) }
bounded_names (x ∷ xs) S h =
    let rest = bounded_names xs (S ∪ only x) h.1 in
    record { below = λ y e. go y e (ℕ_discrete x y) (rest.below y) }
  where
    go : (y : ℕ) → just (x ∷ xs) y ≡ true → Dec (x ≡ y) → (just xs y ≡ true → y < 256) → y < 256
    go y e (yes q) rest = omega (arith, q, h.0.small)
    go y e (no q) rest = rest (rw (ne_eqb x y q) at e)

module _ (operands : List ℤ) (calls : ℕ) where
  -- what stands behind the frame stays
  pub put_above : (ws : List ℤ) (p : ℕ) (env : List ℤ) (q : ℕ) → 256 * calls + 256 ≤ q →
      get_or (put_named operands calls ws p env) q (pos 0) ≡ get_or env q (pos 0)
  unfolding put_named
  put_above [] p env q h = refl
  put_above (w ∷ ws) p env q h =
      put_above ws (p + 1) (set env (place calls (name_at operands p)) w) q h
      ∙ get_or-set_other env (place calls (name_at operands p)) q w (pos 0) (λ e. absurd (omega (arith, e, h)))

  -- and so do the other names
  put_else : (xs : List ℕ) (ws : List ℤ) (p : ℕ) (env : List ℤ) (y : ℕ) → NamesAt operands p xs →
      length ws ≡ length xs → just xs y ≡ false →
      get_or (put_named operands calls ws p env) (place calls y) (pos 0) ≡ get_or env (place calls y) (pos 0)
  unfolding put_named
  put_else [] [] p env y n l e = refl
  put_else [] (w ∷ ws) p env y n l e = absurd (omega (arith, l))
  put_else (x ∷ xs) [] p env y n l e = absurd (omega (arith, l))
  put_else (x ∷ xs) (w ∷ ws) p env y n l e = go (ℕ_discrete x y)
      (λ f. put_else xs ws (p + 1) (set env (place calls (name_at operands p)) w) y n.1 (omega (arith, l)) f)
    where
      -- the word of the name after those of the other parameters
      then_put : ℤ
      then_put = get_or (put_named operands calls ws (p + 1) (set env (place calls (name_at operands p)) w))
          (place calls y) (pos 0)

      go : Dec (x ≡ y) → (just xs y ≡ false → then_put
          ≡ get_or (set env (place calls (name_at operands p)) w) (place calls y) (pos 0)) →
          then_put ≡ get_or env (place calls y) (pos 0)
      go (yes q) rest = absurd (no_bool (rw (eq-eqb x y q) at e))
      go (no q) rest =
          rest (rw (ne_eqb x y q) at e)
          ∙ get_or-set_other env (place calls (name_at operands p)) (place calls y) w (pos 0)
          (λ r. q (sym n.0 ∙ (let z : name_at operands p ≡ y = omega (arith, r) in z)))

  put_there : (xs : List ℕ) (ws : List ℤ) (p : ℕ) (env : List ℤ) (S : Set) (y : ℕ) → calls ≤ 31 →
      frame_words ≤ length env → NamesAt operands p xs → AllNew xs S → length ws ≡ length xs → just xs y ≡ true →
      get_or (put_named operands calls ws p env) (place calls y) (pos 0) ≡ framed xs ws y
  unfolding put_named framed updated
  put_there [] ws p env S y small long n new l e = absurd (no_bool (sym e))
  put_there (x ∷ xs) [] p env S y small long n new l e = absurd (omega (arith, l))
  put_there (x ∷ xs) (w ∷ ws) p env S y small long n new l e = go (ℕ_discrete x y)
      (λ f. put_there xs ws (p + 1) (set env (place calls (name_at operands p)) w) (S ∪ only x) y small
      (omega (arith, long, length-set env (place calls (name_at operands p)) w)) n.1 new.1 (omega (arith, l)) f)
    where
      after : List ℤ
      after = set env (place calls (name_at operands p)) w

      go : Dec (x ≡ y) → (just xs y ≡ true →
          get_or (put_named operands calls ws (p + 1) after) (place calls y) (pos 0) ≡ framed xs ws y) →
          get_or (put_named operands calls ws (p + 1) after) (place calls y) (pos 0) ≡ cond (eqb x y) w (framed xs ws y)
      go (yes q) rest =
          put_else xs ws (p + 1) after y n.1 (omega (arith, l))
          (new_apart xs (S ∪ only x) y new.1 (or_right (S y) (eqb x y) (eq-eqb x y q)))
          ∙ ap (λ (k : ℕ). get_or after (place calls k) (pos 0)) (sym (n.0 ∙ q))
          ∙ get_or-set_same env (place calls (name_at operands p)) w (pos 0) (omega (arith, small, long))
          ∙ sym (ap (λ (t : Bool). cond t w (framed xs ws y)) (eq-eqb x y q))
      go (no q) rest =
          rest (rw (ne_eqb x y q) at e)
          ∙ sym (ap (λ (t : Bool). cond t w (framed xs ws y)) (ne_eqb x y q))

  -- the arguments are the words of the parameters
  module _ (names f : ℕ) (ws : List ℤ) (env : List ℤ) (small : calls ≤ 31) (long : frame_words ≤ length env) where
    pub arguments_agree : (xs : List ℕ) → NamesAt operands names xs → AllNew xs empty → length ws ≡ length xs →
        FrameAgrees calls (called operands calls names f ws env) (framed xs ws) (just xs)
    arguments_agree xs n new l = record {
      agree = λ y e.
          get_or-set_other (put_named operands calls ws names env) (function_place calls) (place calls y) (pos f) (pos 0)
          (λ q. absurd (omega (arith, q, small, (bounded_names xs empty new).below y e)))
          ∙ put_there xs ws names env empty y small long n new l e;
    }

    framed_called : f < 256 → Framed calls f (called operands calls names f ws env)
    framed_called h = record {
      few = small;
      long = omega (arith, long, called_keeps operands calls names f ws env);
      function = ap (λ (z : ℤ). low_bits z % 256)
          (get_or-set_same (put_named operands calls ws names env) (function_place calls) (pos f) (pos 0)
          (omega (arith, small, long, put_keeps operands calls ws names env)))
          ∙ (let z : f % 16777216 % 256 ≡ f = omega (arith, h) in z);
    }

  -- a call leaves the levels
  levels_put : {free : ℕ} {log : List Event} (ws : List ℤ) (p : ℕ) (env : List ℤ) → calls ≤ 31 →
      LevelsAgree free log env → LevelsAgree free log (put_named operands calls ws p env)
  unfolding put_named
  levels_put [] p env small levels = levels
  levels_put (w ∷ ws) p env small levels =
      levels_put ws (p + 1) (set env (place calls (name_at operands p)) w) small
      (levels_set levels (place calls (name_at operands p)) w (omega (arith, small)))

  levels_called : {free : ℕ} {log : List Event} (names f : ℕ) (ws : List ℤ) (env : List ℤ) → calls ≤ 31 →
      LevelsAgree free log env → LevelsAgree free log (called operands calls names f ws env)
  levels_called names f ws env small levels =
      levels_set (levels_put ws names env small levels) (function_place calls) (pos f) (omega (arith, small))

-- ---- the routines of a program in the code

-- routine g of a program stands in the code and in the table
pub record FunctionStands (p : Program) (c : Code) (g : ℕ) : Type 0 where
  pub fitting : Fitting p (routine_of p g).depths (routine_of p g).tree (p.signatures g).result
  -- as many names as the function's line says, in the lines of its parameters, each of them once
  pub arity : length (routine_of p g).names ≡ length (p.signatures g).parameters
  pub counted : parameters_in c g ≡ length (p.signatures g).parameters
  pub named : NamesAt c.operands (names_in c g) (routine_of p g).names
  pub new : AllNew (routine_of p g).names empty
  pub scoped : Scoped (routine_of p g).tree (just (routine_of p g).names)
  pub written : At c.kinds c.operands (tree_in c g) (rows (routine_of p g).tree)
  pub short : length (rows (routine_of p g).tree) ≤ 4096
  pub depths : (x : ℕ) → x < 256 → depth_in c.table g x ≡ (routine_of p g).depths x
  pub few : length (p.signatures g).parameters ≤ 8

module _ (free : ℕ) (p : Program) (enough : length p.routines ≤ 32) (c : Code)
    (all : (g : ℕ) → g < length p.routines → FunctionStands p c g) (jumps : Jumps c) where
  -- the frame of a call of routine g
  abbrev pub frame_of : ℕ → ℕ → List ℤ → List ℤ → List ℤ
  frame_of n g ws env = called c.operands n (names_in c g) g ws env

  -- its tree was worked to its end
  abbrev pub Returned : ℕ → ℕ → List ℤ → List ℤ → Ran → ℤ → State → Type 0
  Returned n g ws env = TreeDone free (tree_in c g + length (rows (routine_of p g).tree)) n (frame_of n g ws env)
      (just (routine_of p g).names)

  -- a routine's tree, with some call depth left
  pub function_same : (n : ℕ) → n ≤ 31 → CalleeSame free p c n (call_on n c) (machine p n) → (R : List ℕ) (g : ℕ)
      (ws : List ℤ) (env : List ℤ) (s : State) → g < length p.routines →
      length ws ≡ length (p.signatures g).parameters → frame_words ≤ length env →
      LevelsAgree free s.log env → Rel free (Returned n g ws env)
      (tree_on 4096 (call_on n c) c n (tree_in c g) s.left (memory s.store (frame_of n g ws env)))
      (machine p (suc n) R g ws s)
  unfolding machine
  function_same n small calling R g ws env s h a long levels =
      let st = all g h in
      let r = routine_of p g in
      tree_same free p enough (machine p n) p.borrowing r.depths c n g (call_on n c) st.depths
      jumps calling r.tree 4096 st.short (omega arith) (just r.names) (p.signatures g).result
      st.fitting st.scoped (bounded_names r.names empty st.new) (tree_in c g) st.written empty R
      (framed r.names ws) s (frame_of n g ws env)
      (arguments_agree c.operands n (names_in c g) g ws env small long r.names st.named st.new
      (a ∙ sym st.arity))
      (framed_called c.operands n (names_in c g) g ws env small long (omega (arith, h, enough)))
      (levels_called c.operands n (names_in c g) g ws env small levels)

  -- the lines of a routine's parameters are within the code, before its tree
  names_within : (g : ℕ) → g < length p.routines →
      names_in c g + length (p.signatures g).parameters ≤ length c.kinds
  names_within g h =
      let st = all g h in
      omega (
        arith,
        st.counted,
        tree_there c.kinds c.operands (tree_in c g) (routine_of p g).tree st.written,
      )

  pub calls_same : (n : ℕ) → n ≤ 31 → CalleeSame free p c n (call_on n c) (machine p n)
  unfolding call_on machine
  calls_same zero small = record {
    few = λ g h. (all g h).few;
    counted = λ g h. (all g h).counted;
    within = names_within;
    same = λ R g ws env s h a long levels.
        record { stop = refl; real = λ z. omega arith; steps = refl; levels = levels };
  }
  calls_same (suc n) small = record {
    few = λ g h. (all g h).few;
    counted = λ g h. (all g h).counted;
    within = names_within;
    same = λ R g ws env s h a long levels.
        let put = put_named c.operands n ws (names_in c g) env in
        rel_map free (Returned n g ws env) (CallDone free (suc n) env)
        (tree_on 4096 (call_on n c) c n (tree_in c g) s.left (memory s.store (frame_of n g ws env)))
        (machine p (suc n) R g ws s)
        (λ v s' d. record {
          value = d.word.value;
          steps = d.word.steps;
          store = d.word.store;
          frames = λ q l m. d.word.kept.callers q (omega (arith, l)) m
              ∙ get_or-set_other put (function_place n) q (pos g) (pos 0) (λ e. absurd (omega (arith, e, m)))
              ∙ put_above c.operands n ws (names_in c g) env q (omega (arith, l));
          functions = λ k l m. d.word.kept.functions k (omega (arith, l)) m
              ∙ get_or-set_other put (function_place n) (function_place k) (pos g) (pos 0)
              (λ e. absurd (omega (arith, e, l)))
              ∙ put_above c.operands n ws (names_in c g) env (function_place k) (omega (arith, small));
          long = d.word.kept.long ∙ called_keeps c.operands n (names_in c g) g ws env;
          levels = d.word.levels;
        })
        (function_same n (omega arith) (calls_same n (omega arith)) R g ws env s h a long levels);
  }
