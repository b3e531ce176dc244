-- Laws of the functions of an accepted script.
use Rattle.prelude.specs.Kit.{ℕ, ◌≤◌, ◌+◌, ◌<◌, suc, zero, arith, dec_lt, ℕ_discrete, true, false, Bool, cond, ◌≡◌}
use Rattle.prelude.specs.Kit.{refl, ◌∙◌, sym, ap, subst, fun_ext, some, none, List, [], ◌∷◌, ltb, length, get_or, set}
use Rattle.prelude.specs.Kit.{length-set, replicate, get_or-set_other, get_or-set_same, ltb-false}
use Rattle.semantics.specs.Syntax.{Function, Script, function_at, no_function, function_size}
use Rattle.semantics.specs.File.{at_function}
use Rattle.semantics.specs.Normal.{fresh, too_many_names_from, normal_body}
use Rattle.semantics.specs.Annotate.{parameter_depths_from, result_of}
use Rattle.script_read.specs.Told.{high_at}
use Rattle.script_read.proofs.Written.{FunctionWritten, ScriptWritten, total, script_written}
use Rattle.script_read.specs.Starts.{start_of}
use Rattle.script_read.proofs.Starts.{started_within}
use Rattle.script_read.proofs.Ends.{script_ends}
use Rattle.script_read.proofs.Tables.{none_set}
use Rattle.flatten_rows.specs.Shallow.{Shallow}
use Rattle.flatten_functions.specs.Read.{read_function, Fitting}
use Rattle.flatten_functions.proofs.Typed.{body_shallow, clean_accepted}
use Rattle.flatten_functions.proofs.Accepted.{function_is, fitting, high_there}
use Rattle.flatten_functions.specs.Script.{Translatable, Resulting}

-- ---- the script that was read

pub known : {k w : List ℕ} {n : ℕ} {ss : List ℕ} (t : Translatable k w n ss) → ScriptWritten k w t.tree 0 ×
    ((length t.tree ≡ n) × (total t.tree ≤ 1024))
known {k} {w} {n} {ss} t = go (rw t.reads at (script_written k w n 0))
  where
    go : ScriptWritten k w t.tree 0 × (length t.tree ≡ n) × (length k ≤ 0 + total t.tree) →
        ScriptWritten k w t.tree 0 × ((length t.tree ≡ n) × (total t.tree ≤ 1024))
    go h = (h.0, (h.1, omega (arith, script_ends k w t.tree 0 h.0 (omega arith), t.parts.few)))

module _ (k w : List ℕ) where
  written_at : (gs : Script) (p j : ℕ) → j < length gs → ScriptWritten k w gs p → FunctionWritten k w
      (function_at gs j) (start_of gs p j)
  written_at [] p j h x = absurd (let f : ⊥ = omega arith in f)
  written_at (g ∷ gs) p zero h x = x.0
  written_at (g ∷ gs) p (suc j) h x = written_at gs (p + function_size g) j (omega arith) x.1

  ends_at : (gs : Script) (p j : ℕ) → j < length gs → start_of gs p j + function_size (function_at gs j) ≤ p + total
      gs
  ends_at [] p j h = absurd (let f : ⊥ = omega arith in f)
  ends_at (g ∷ gs) p zero h = omega arith
  ends_at (g ∷ gs) p (suc j) h = omega (arith, ends_at gs (p + function_size g) j (omega arith))

  few_names : (gs : Script) (p j : ℕ) → j < length gs → too_many_names_from gs p ≡ none → length (function_at gs j
      ).parameters + fresh (function_at gs j).body ≤ 256
  unfolding too_many_names_from
  few_names [] p j h e = absurd (let f : ⊥ = omega arith in f)
  few_names (g ∷ gs) p j h e = go (ltb 256 (length g.parameters + fresh g.body)) refl j h e
      (λ i l f. few_names gs (p + function_size g) i l f)
    where
      go : (b : Bool) → ltb 256 (length g.parameters + fresh g.body) ≡ b → (j : ℕ) → j < suc (length gs) →
          cond b (some p) (too_many_names_from gs (p + function_size g)) ≡ none →
          ((i : ℕ) → i < length gs → too_many_names_from gs (p + function_size g) ≡ none → length (function_at gs i
          ).parameters + fresh (function_at gs i).body ≤ 256) →
          length (function_at (g ∷ gs) j).parameters + fresh (function_at (g ∷ gs) j).body ≤ 256
      go true f j h e later = absurd (let z : ◌≡◌ {A = ℕ} 0 1 = cc in omega arith)
      go false f zero h e later = ltb-false 256 (length g.parameters + fresh g.body) f
      go false f (suc j) h e later = later j (omega arith) e

-- ---- where the functions stand

pub function_past : (gs : Script) (j : ℕ) → length gs ≤ j → function_at gs j ≡ no_function
function_past [] j h = refl
function_past (g ∷ gs) zero h = absurd (let f : ⊥ = omega arith in f)
function_past (g ∷ gs) (suc j) h = function_past gs j (omega arith)

-- ---- the table of the results' depths

-- those of the functions before i are there
pub record Results (fs : Script) (i : ℕ) (results : List ℕ) : Type 0 where
  pub long : length results ≡ 32
  pub there : (j : ℕ) → j < i → get_or results j 0 ≡ result_of fs j
  pub blank : (j : ℕ) → i ≤ j → get_or results j 0 ≡ 0

pub results_none : (fs : Script) → Results fs 0 (replicate 32 0)
results_none fs = record {
  long = refl;
  there = λ j h. absurd (let f : ⊥ = omega arith in f);
  blank = λ j h. none_set {A = ℕ} 0 32 j;
}

module _ {fs : Script} {i : ℕ} {rs : List ℕ} (r : Results fs i rs) where
  pub results_more : (d : ℕ) → i < 32 → d ≡ result_of fs i → Results fs (i + 1) (set rs i d)
  results_more d h e = record {
    long = length-set rs i d ∙ r.long;
    there = λ j l. go j l (ℕ_discrete j i);
    blank = λ j l. get_or-set_other rs i j d 0 (λ z. omega arith) ∙ r.blank j (omega arith);
  }
    where
      go : (j : ℕ) → j < i + 1 → Dec (j ≡ i) → get_or (set rs i d) j 0 ≡ result_of fs j
      go j l (yes z) = rw z (get_or-set_same rs i d 0 (omega (arith, r.long)) ∙ e)
      go j l (no z) = get_or-set_other rs i j d 0 z ∙ r.there j (omega (arith, z))

  pub results_all : length fs ≤ i → Resulting fs rs
  results_all h = record { at = λ f. go f (dec_lt f i) }
    where
      go : (f : ℕ) → Dec (f < i) → get_or rs f 0 ≡ result_of fs f
      go f (yes l) = r.there f l
      go f (no l) =
          r.blank f (omega (arith, l))
          ∙ sym (ap (λ (y : Function). y.result) (function_past fs f (omega (arith, l))))

-- ---- where a function stands

module _ {k w : List ℕ} {n : ℕ} {ss : List ℕ} (t : Translatable k w n ss) where
  pub start_is : (i : ℕ) → i < n → get_or ss i 0 ≡ start_of t.tree 0 i
  start_is i h = started_within t.started (omega (arith, (known t).1.0, t.few)) i (omega (arith, (known t).1.0))

  pub result_there : (i at : ℕ) → i < n → at ≡ get_or ss i 0 →
      high_at k w at_function at ≡ result_of t.tree i
  result_there i at h e =
      ap (high_at k w at_function) (e ∙ start_is i h)
      ∙ high_there k w (written_at k w t.tree 0 i (omega (arith, (known t).1.0)) (known t).0).head

module _ {k w : List ℕ} {n : ℕ} {ss rs : List ℕ} (t : Translatable k w n ss) (hd : Resulting t.tree rs) where
  shallow_at : (i : ℕ) → let g = function_at t.tree i in
      Shallow (λ f. get_or rs f 0) (normal_body g) (parameter_depths_from g.parameters 0)
  shallow_at i =
      let g = function_at t.tree i in
      subst (λ (q : ℕ → ℕ). Shallow q (normal_body g) (parameter_depths_from g.parameters 0))
      (fun_ext (λ f. sym (hd.at f))) (body_shallow t.tree g (clean_accepted t.tree t.clean i))

  pub fits_at : (i at : ℕ) → i < n → at ≡ get_or ss i 0 → Fitting k w rs at
  fits_at i at h e =
      let l : i < length t.tree = omega (arith, (known t).1.0) in
      rw (e ∙ start_is t i h)
      (fitting k w rs (function_at t.tree i) (start_of t.tree 0 i) (written_at k w t.tree 0 i l
      (known t).0) t.parts (shallow_at i)
      (omega (arith, ends_at k w t.tree 0 i l, (known t).1.1)) (few_names k w t.tree 0 i l t.clean.roomy))

  pub function_there : (i at : ℕ) → i < n → at ≡ get_or ss i 0 → read_function k w at ≡ function_at t.tree i
  function_there i at h e =
      ap (read_function k w) (e ∙ start_is t i h)
      ∙ function_is k w (function_at t.tree i) (start_of t.tree 0 i)
      (written_at k w t.tree 0 i (omega (arith, (known t).1.0)) (known t).0)
