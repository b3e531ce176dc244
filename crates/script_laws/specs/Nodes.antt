-- The first of the nodes that break 6, or 7, is the lowest. A refusal of a file has a number from 1 to 8 and gives a
-- node up to 1,024: so both fit their places in the answer.
use Rattle.std.specs.Prelude.{ℕ, ◌≤◌, ◌<◌, ◌≡◌, refl, List, [], ◌∷◌}
use Rattle.prelude.specs.Kit.{arith, some, none, Option, eq-eqb}
use Rattle.semantics.specs.Basics.{least, occurrences, ◌∈◌}
use Rattle.semantics.specs.Outcome.{Outcome, done, stop}
use Rattle.semantics.specs.Syntax.{Script}
use Rattle.semantics.specs.File.{read_file}
use Rattle.semantics.specs.Names.{name_faults}
use Rattle.semantics.specs.Types.{type_faults}
use Rattle.semantics.specs.Normal.{too_many_names}
use Rattle.semantics.specs.Calls.{Verdict, accepted, refused, judged, judged_read, judged_script}
use Rattle.script_read.proofs.Written.{total}
use Rattle.script_laws.specs.Reading.{Small, read_small}
use Rattle.script_laws.specs.Faults.{Rising, Within, name_faults_within, type_faults_within, crowd_below}

-- ---- the least of a rising list

pub names_rise : (fs : Script) → Rising (name_faults fs)
names_rise fs = (name_faults_within fs).rising

pub types_rise : (fs : Script) → Rising (type_faults fs)
types_rise fs = (type_faults_within fs).rising

first_in : (p : ℕ) (l : List ℕ) → p ∈ (p ∷ l)
unfolding occurrences
first_in p l = rw (eq-eqb p p refl) (omega arith)

pub first_least : (p : ℕ) (l : List ℕ) → Rising (p ∷ l) → least p l ≡ p
unfolding least
first_least p [] h = refl
first_least p (q ∷ l) h = omega (arith, first_least q l h.1, h.0 q (first_in q l))

-- ---- the node of a refusal

same_node : (m q n p : ℕ) → refused m q ≡ refused n p → q ≡ p
same_node m q n p e = cc

no_refusal : {A : Type 0} (fs : Script) (n p : ℕ) → accepted fs ≡ refused n p → A
no_refusal fs n p e = absurd (let z : ◌≡◌ {A = ℕ} 0 1 = cc in omega arith)

-- the least of some nodes is below what all of them are below
least_below : {a b : ℕ} (p : ℕ) (l : List ℕ) → Within (p ∷ l) a b → least p l < b
least_below p l w = omega (arith, first_least p l w.rising, w.under p (first_in p l))

module _ (n p : ℕ) where
  by_script : (fs : Script) → total fs ≤ 1024 →
      judged_script fs (name_faults fs) (type_faults fs) (too_many_names fs) ≡ refused n p → p ≤ 1024
  by_script fs small =
      by (name_faults fs) (name_faults_within fs) (type_faults fs) (type_faults_within fs) (too_many_names fs) refl
    where
      by : (l : List ℕ) → Within l 0 (total fs) → (m : List ℕ) → Within m 0 (total fs) → (o : Option ℕ) →
          too_many_names fs ≡ o → judged_script fs l m o ≡ refused n p → p ≤ 1024
      by [] a [] b none c e = no_refusal fs n p e
      by [] a [] b (some q) c e = omega (arith, crowd_below fs 0 q c, small, same_node 8 q n p e)
      by [] a (x ∷ m) b o c e = omega (arith, small, least_below x m b, same_node 7 (least x m) n p e)
      by (x ∷ l) a m b o c e = omega (arith, small, least_below x l a, same_node 6 (least x l) n p e)

  by_reading : (o : Outcome ℕ Script) → Small 1024 o → judged_read o ≡ refused n p → p ≤ 1024
  by_reading (done fs q) small e = by_script fs small e
  by_reading (stop m q) small e = omega (arith, small.node, same_node m q n p e)

  pub refused_node : (file : List ℕ) → judged file ≡ refused n p → p ≤ 1024
  unfolding judged
  refused_node file e = by_reading (read_file file) (read_small file) e

-- a verdict that is a refusal has a number from 1 to 8
abbrev pub Numbered : Verdict → Type 0
Numbered (accepted fs) = Unit {0}
Numbered (refused n p) = (0 < n) × (n ≤ 8)

pub judged_numbered : (file : List ℕ) → Numbered (judged file)
unfolding judged
judged_numbered file = by (read_file file) (read_small file)
  where
    faults : (fs : Script) (l m : List ℕ) (o : Option ℕ) → Numbered (judged_script fs l m o)
    faults fs [] [] none = tt
    faults fs [] [] (some p) = (omega arith, omega arith)
    faults fs [] (q ∷ m) o = (omega arith, omega arith)
    faults fs (p ∷ l) m o = (omega arith, omega arith)

    by : (o : Outcome ℕ Script) → Small 1024 o → Numbered (judged_read o)
    by (done fs p) e = faults fs (name_faults fs) (type_faults fs) (too_many_names fs)
    by (stop n p) e = (e.low, omega (arith, e.high))
