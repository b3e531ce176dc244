-- What a verdict says, in the terms of the definitions.
use Rattle.std.specs.Prelude.{◌≡◌, List, [], ◌∷◌, ℕ, ◌≤◌, Result, Ok, Err}
use Rattle.std.proofs.Math.Option.{Option, none, some}
use Rattle.answers.specs.Numbers.{number_of}
use Rattle.semantics.specs.Outcome.{Outcome, done, stop}
use Rattle.semantics.specs.Number.{bytes_at}
use Rattle.semantics.specs.Syntax.{Script}
use Rattle.semantics.specs.File.{script}
use Rattle.semantics.specs.Names.{name_faults}
use Rattle.semantics.specs.Types.{type_faults}
use Rattle.semantics.specs.Normal.{too_many_names}
use Rattle.semantics.specs.Calls as C
use Rattle.semantics.specs.Calls.{judged}
use Rattle.script_read.specs.Told.{Parts}
use Rattle.script_read.specs.declared.Fault.{Fault}
use Rattle.script.specs.declared.Accepted.{Accepted}

-- the sizes of an accepted file, or the number and the node of a refusal
abbrev pub verdict_outcome : Result Accepted Fault → Outcome ℕ ℕ
verdict_outcome (Ok a) = done a.functions a.nodes
verdict_outcome (Err f) = stop (number_of f.refusal) f.node

-- the sizes in the header of an accepted file, or the number and the node of a refusal
abbrev pub told_verdict : List ℕ → C.Verdict → Outcome ℕ ℕ
told_verdict file (C.accepted fs) = done (bytes_at 2 file 0) (bytes_at 2 file 2)
told_verdict file (C.refused n p) = stop n p

-- the verdict is the documents'
abbrev pub JudgedAs : List ℕ → Outcome ℕ ℕ → Type 0
JudgedAs file o = o ≡ told_verdict file (judged file)

-- the promise of `judge`
abbrev pub Judges : List ℕ → Result Accepted Fault → Type 0
Judges file r = JudgedAs file (verdict_outcome r)

-- the two parts of a file that the reader takes
pub record Readable (kinds operands : List ℕ) (functions : ℕ) : Type 0 where
  pub parts : Parts kinds operands
  pub one : 1 ≤ functions
  pub few : functions ≤ 32
  pub tree : Script
  pub end : ℕ
  pub reads : script kinds operands functions 0 ≡ done tree end

-- refused with the number at the first of the faulty nodes, if there is one
abbrev pub refused_by : ℕ → List ℕ → Outcome ℕ ℕ → Outcome ℕ ℕ
refused_by number [] verdict = verdict
refused_by number (p ∷ ps) verdict = stop number p

abbrev pub listed : Option ℕ → List ℕ
listed none = []
listed (some p) = p ∷ []

-- the verdict with the first node, by what is read: 6, 7 and 8 each over the whole file
abbrev pub checked_as : ℕ → ℕ → Outcome ℕ Script → Outcome ℕ ℕ
checked_as f n (done fs q) =
    refused_by 6 (name_faults fs)
    (refused_by 7 (type_faults fs) (refused_by 8 (listed (too_many_names fs)) (done f n)))
checked_as f n (stop m p) = stop m p
