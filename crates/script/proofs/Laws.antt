-- What the passes find in a script that the reader takes.
use Rattle.prelude.specs.Kit.{ℕ, ◌≤◌, ◌+◌, arith, ◌≡◌, refl, ◌∙◌, sym, ap, subst, some, none, Option, List, [], ◌∷◌}
use Rattle.prelude.specs.Kit.{length}
use Rattle.semantics.specs.File.{script}
use Rattle.semantics.specs.Names.{name_faults, unknown_in}
use Rattle.semantics.specs.Types.{type_faults}
use Rattle.semantics.specs.Normal.{too_many_names}
use Rattle.script_read.specs.Told.{repeated, found}
use Rattle.script_read.specs.Starts.{Started, Started_by}
use Rattle.script_read.specs.Told as R
use Rattle.script_read.specs.Told.{Read}
use Rattle.script_read.proofs.Written.{ScriptWritten, script_written, total}
use Rattle.script_names.specs.Walk.{names_function}
use Rattle.script_names.proofs.Tree.{names_script}
use Rattle.script_types.specs.Functions.{types_script, known_script}
use Rattle.script_types.proofs.Script.{types_faults}
use Rattle.script_count.specs.Count.{crowd, counted_outcome, crowd_outcome}
use Rattle.std.specs.Prelude as P
use Rattle.std.specs.Prelude.{Some, None, IsErrAnd}
use Rattle.std.proofs.lemmas.Result.{err_from_is_err_and}
use Rattle.answers.specs.Numbers.{number_of}
use Rattle.script_read.specs.declared.Fault.{Fault}
use Rattle.script.specs.declared.Accepted.{Accepted}
use Rattle.semantics.specs.Outcome.{Outcome, done, stop}
use Rattle.script_count.proofs.Tree.{count_all}
use Rattle.script.proofs.Both.{JointRead, both_go, unknown_name, depths_differ, Placed, all_placed, script_joint}
use Rattle.script.specs.Verdicts.{Readable, verdict_outcome, refused_by, listed, checked_as}

-- a fault that is passed on
pub passed_on : (r : P.Result Accepted Fault) (f : Fault) → IsErrAnd r (λ g. g ≡ f) →
    verdict_outcome r ≡ stop (number_of f.refusal) f.node
passed_on r f e = let p = err_from_is_err_and r e in rw (p.1, p.2)

-- an answer that goes on has found no fault
pub found_none : (number : ℕ) (l : List ℕ) (q s : ℕ) → R.Next s ≡ found number l q → l ≡ []
found_none number [] q s e = refl
found_none number (n ∷ l) q s e = let z : ◌≡◌ {A = ℕ} 0 1 = cc in absurd (omega arith)

-- what a walk for both tells of the walks for each
both_went : {n t u : Read} (s : ℕ) → JointRead n t u → u ≡ R.Next s → (n ≡ R.Next s) × (t ≡ R.Next s)
both_went s (both_go q e i) h = let j : q ≡ s = cc in rw (← j) (e, i)
both_went s (unknown_name a i m j e) h = let z : ◌≡◌ {A = ℕ} 0 1 = cc in absurd (omega arith)
both_went s (depths_differ a i e) h = let z : ◌≡◌ {A = ℕ} 0 1 = cc in absurd (omega arith)

only_depths : {n t u : Read} (m p s : ℕ) → JointRead n t u → u ≡ R.Refused m p → n ≡ R.Next s → t ≡ R.Refused m p
only_depths m p s (both_go q e i) h g = let z : ◌≡◌ {A = ℕ} 0 1 = cc in absurd (omega arith)
only_depths m p s (unknown_name a i b j e) h g = let z : ◌≡◌ {A = ℕ} 0 1 = cc in absurd (omega arith)
only_depths m p s (depths_differ a i e) h g = e ∙ h

module _ {k w : List ℕ} {f : ℕ} (a : Readable k w f) where
  written : ScriptWritten k w a.tree 0 × (length a.tree ≡ f) × (length k ≤ 0 + total a.tree)
  written = rw a.reads at (script_written k w f 0)

  -- the verdict by the faulty nodes
  abbrev pub Says : Outcome ℕ ℕ → Type 0
  Says r = r ≡ checked_as f (length k) (script k w f 0)

  says : (r : Outcome ℕ ℕ) →
      r ≡ refused_by 6 (name_faults a.tree) (refused_by 7 (type_faults a.tree)
      (refused_by 8 (listed (too_many_names a.tree)) (done f (length k)))) → Says r
  says r e = rw a.reads e

  module _ (r : Read) (e : r ≡ repeated f (names_function k w f) 0) where
    names_answer : (q : ℕ) × (r ≡ found 6 (name_faults a.tree) q)
    unfolding name_faults
    names_answer =
        let n = names_script k w f a.tree 0 written.0 in (
          n.0,
          e ∙ ap (λ (m : ℕ). repeated m (names_function k w f) 0) (sym written.1) ∙ n.1.is
              ∙ ap (λ (m : ℕ). found 6 (unknown_in m a.tree 0) n.0) (sym written.1),
        )

    pub unknown_found : (m p : ℕ) → r ≡ R.Refused m p → Says (stop m p)
    unknown_found m p g =
        says (stop m p) (go (name_faults a.tree) names_answer.0 _ (sym g ∙ names_answer.1))
      where
        go : (l : List ℕ) (q : ℕ) (v : Outcome ℕ ℕ) → R.Refused m p ≡ found 6 l q → stop m p ≡ refused_by 6 l v
        go [] q v h = let z : ◌≡◌ {A = ℕ} 0 1 = cc in absurd (omega arith)
        go (n ∷ l) q v h = cc

    -- names that are all known
    pub all_known : (s : ℕ) → r ≡ R.Next s → name_faults a.tree ≡ []
    all_known s g = found_none 6 (name_faults a.tree) names_answer.0 s (sym g ∙ names_answer.1)

  -- the functions' nodes stand in a table
  pub started : (t : List ℕ) → Started_by (script k w f 0) t → Started a.tree t
  started t starts = rw a.reads at starts

  -- the walk for both
  module _ (t : List ℕ) (starts : Started_by (script k w f 0) t) (r : Read) (e : r ≡ known_script k w t f) where
    abbrev names : Read
    names = repeated f (names_function k w f) 0

    abbrev depths : Read
    depths = types_script k w t f

    together : JointRead names depths r
    together =
        rw e (script_joint k w t f
        (subst (λ (m : ℕ). Placed k t m) written.1
        (all_placed k w a.tree t a.parts.few written.0 (started t starts).at)))

    types_answer : (q : ℕ) × (depths ≡ found 7 (type_faults a.tree) q)
    types_answer =
        let n = types_faults k w t a.tree written.0 (omega (arith, written.1, a.one)) a.parts.few
        (started t starts).at
        in
        (n.0, ap (types_script k w t) (sym written.1) ∙ n.1.is)

    -- a fault where all names are known
    pub mismatch_found : (m p : ℕ) → r ≡ R.Refused m p → (r₁ : Read) → r₁ ≡ repeated f (names_function k w f) 0 →
        (s : ℕ) → r₁ ≡ R.Next s → Says (stop m p)
    mismatch_found m p h r₁ e₁ s g =
        says (stop m p)
        (rw (all_known r₁ e₁ s g)
        (go (type_faults a.tree) types_answer.0 _
        (sym (only_depths m p s together h (sym e₁ ∙ g)) ∙ types_answer.1)))
      where
        go : (l : List ℕ) (q : ℕ) (v : Outcome ℕ ℕ) → R.Refused m p ≡ found 7 l q → stop m p ≡ refused_by 7 l v
        go [] q v h = let z : ◌≡◌ {A = ℕ} 0 1 = cc in absurd (omega arith)
        go (n ∷ l) q v h = cc

    -- after a walk that finds no fault
    module _ (s : ℕ) (g : r ≡ R.Next s) (r₃ : P.Option ℕ)
        (e₃ : counted_outcome r₃ ≡ crowd_outcome (crowd k (length k) 0 0 0)) where
      none_unknown : name_faults a.tree ≡ []
      none_unknown = all_known names refl s (both_went s together g).0

      all_match : type_faults a.tree ≡ []
      all_match =
          found_none 7 (type_faults a.tree) types_answer.0 s
          (sym (both_went s together g).1 ∙ types_answer.1)

      count_answer : counted_outcome r₃ ≡ crowd_outcome (too_many_names a.tree)
      count_answer = e₃ ∙ ap crowd_outcome (count_all k w a.tree written.0 (omega (arith, written.2)))

      pub crowd_found : (p : ℕ) → r₃ ≡ Some p → Says (stop 8 p)
      crowd_found p h =
          says (stop 8 p) (rw (none_unknown, all_match) (go (too_many_names a.tree)
          (ap counted_outcome (sym h) ∙ count_answer)))
        where
          go : (o : Option ℕ) → counted_outcome (Some p) ≡ crowd_outcome o →
              stop 8 p ≡ refused_by 8 (listed o) (done f (length k))
          go none h = let z : ◌≡◌ {A = ℕ} 0 1 = cc in absurd (omega arith)
          go (some q) h = cc

      pub accepted : r₃ ≡ None → Says (done f (length k))
      accepted h =
          says (done f (length k)) (rw (none_unknown, all_match) (go (too_many_names a.tree)
          (ap counted_outcome (sym h) ∙ count_answer)))
        where
          go : (o : Option ℕ) → counted_outcome None ≡ crowd_outcome o →
              done f (length k) ≡ refused_by 8 (listed o) (done f (length k))
          go none h = refl
          go (some q) h = let z : ◌≡◌ {A = ℕ} 0 1 = cc in absurd (omega arith)
