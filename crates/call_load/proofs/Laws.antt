-- What a verdict on a file says, and one law for each way out of loading.
use Rattle.prelude.specs.Kit.{ℕ, ◌≤◌, arith, true, false, Bool, ◌≡◌, refl, ◌∙◌, ap, some, none, Option, List, [], ◌∷◌}
use Rattle.prelude.specs.Kit.{ℤ, pos, length, replicate}
use Rattle.semantics.specs.Outcome.{Outcome, done, stop}
use Rattle.semantics.specs.Number.{bytes_at}
use Rattle.semantics.specs.Syntax.{Script, main_depth}
use Rattle.semantics.specs.File.{at_function, script, read_file}
use Rattle.semantics.specs.Names.{name_faults}
use Rattle.semantics.specs.Types.{type_faults}
use Rattle.semantics.specs.Normal.{too_many_names}
use Rattle.semantics.specs.Calls as C
use Rattle.semantics.specs.Calls.{packed, judged, judged_read, judged_script, admitted, room, code_fits}
use Rattle.laws.specs.Tests.{no_equation}
use Rattle.script_read.specs.Told.{high_at}
use Rattle.script_read.specs.Starts.{Started_by}
use Rattle.script_read.proofs.Written.{ScriptWritten, script_written}
use Rattle.script.specs.Verdicts.{told_verdict, JudgedAs}
use Rattle.script.proofs.Whole.{kinds_of, operands_of, FileTaken, taken}
use Rattle.script_laws.specs.Nodes.{refused_node}
use Rattle.soundness.proofs.annotation.Accepting.{judged_clean}
use Rattle.flatten_functions.specs.Script.{Translatable}
use Rattle.translate.specs.Left.{CodeLeft, left_of, Leaves}
use Rattle.std.specs.Prelude.{Result, Err, IsErrAnd}
use Rattle.std.proofs.lemmas.Result.{err_from_is_err_and}
use Rattle.call_load.specs.declared.Ready.{Ready}
use Rattle.call_load.specs.Loading.{ready_with, Loads}

-- ---- an accepted file

pub record AcceptedFile (file : List ℕ) (f n : ℕ) : Type 0 where
  pub tree : Script
  pub last : ℕ
  pub judged_so : judged file ≡ C.accepted tree
  pub reads : read_file file ≡ done tree last
  pub functions : f ≡ bytes_at 2 file 0
  pub nodes : n ≡ bytes_at 2 file 2

pub accepted_file : (file : List ℕ) (f n : ℕ) → JudgedAs file (done f n) → AcceptedFile file f n
unfolding judged
accepted_file file f n h = go (read_file file) refl h
  where
    by : (fs : Script) (q : ℕ) → read_file file ≡ done fs q → (l m : List ℕ) (o : Option ℕ) → name_faults fs ≡ l →
        type_faults fs ≡ m → too_many_names fs ≡ o →
        done f n ≡ told_verdict file (judged_script fs l m o) → AcceptedFile file f n
    by fs q r [] [] none a b c e = record {
      tree = fs;
      last = q;
      judged_so = rw (r, a, b, c) refl;
      reads = r;
      functions = let z : f ≡ bytes_at 2 file 0 = cc in z;
      nodes = let z : n ≡ bytes_at 2 file 2 = cc in z;
    }
    by fs q r [] [] (some p) a b c e = no_equation cc
    by fs q r [] (x ∷ m) o a b c e = no_equation cc
    by fs q r (x ∷ l) m o a b c e = no_equation cc

    go : (o : Outcome ℕ Script) → read_file file ≡ o → done f n ≡ told_verdict file (judged_read (read_file file)) →
        AcceptedFile file f n
    go (done fs q) r e = by fs q r (name_faults fs) (type_faults fs) (too_many_names fs) refl refl refl (rw r at e)
    go (stop m q) r e = let s : done f n ≡ stop m q = rw r at e in no_equation cc

module _ {file : List ℕ} {f n : ℕ} (a : AcceptedFile file f n) where
  pub file_taken : FileTaken file f n
  file_taken = taken file f n a.last a.functions a.nodes (rw a.reads refl)

  pub script_reads : script (kinds_of file n) (operands_of file n) f 0 ≡ done a.tree a.last
  script_reads = file_taken.same ∙ a.reads

  pub translatable : {starts : List ℕ} → Started_by (read_file file) starts →
      Translatable (kinds_of file n) (operands_of file n) f starts
  translatable h = record {
    parts = file_taken.readable.parts;
    few = file_taken.readable.few;
    tree = a.tree;
    last = a.last;
    reads = script_reads;
    clean = judged_clean file a.tree a.judged_so;
    started = rw a.reads at h;
  }

  -- the node of main has the depth of its result
  pub depth_read : high_at (kinds_of file n) (operands_of file n) at_function 0 ≡ main_depth a.tree
  unfolding high_at
  depth_read =
      let h = rw script_reads at (script_written (kinds_of file n) (operands_of file n) f 0) in
      first a.tree h.0 (omega (arith, h.1, file_taken.readable.one))
    where
      first : (gs : Script) → ScriptWritten (kinds_of file n) (operands_of file n) gs 0 → 1 ≤ length gs →
          high_at (kinds_of file n) (operands_of file n) at_function 0 ≡ main_depth gs
      first [] h l = absurd (omega arith)
      first (g ∷ gs) h l = rw h.0.head.is h.0.head.upper

-- ---- the ways out

-- an answer that is passed on
pub passed_on : (r : Result Ready ℕ) (a : ℕ) → IsErrAnd r (λ b. b ≡ a) → r ≡ Err a
passed_on r a e = let p = err_from_is_err_and r e in rw (p.1, p.2)

-- the verdict is a refusal 1 to 8
pub refused_so : (file : List ℕ) {n p : ℕ} → JudgedAs file (stop n p) → judged file ≡ C.refused n p
refused_so file {n} {p} j = go (judged file) j
  where
    go : (v : C.Verdict) → stop n p ≡ told_verdict file v → v ≡ C.refused n p
    go (C.accepted fs) e = no_equation cc
    go (C.refused m q) e = cc

pub node_fits : (file : List ℕ) {n p : ℕ} → JudgedAs file (stop n p) → p ≤ 1024
node_fits file {n} {p} j = refused_node n p file (refused_so file j)

-- an answer of the translator, as one of loading
abbrev pub ready : ℕ → Outcome (Unit {0}) ℕ → Result Ready ℕ
ready d (done m u) = ready_with m d
ready d (stop n u) = Err n

module _ {file : List ℕ} {kinds : List ℕ} {operands : List ℤ} {kinds' : List ℕ} {operands' : List ℤ} where
  -- what the translator leaves
  pub loads_laid : {f n : ℕ} (r : Outcome (Unit {0}) ℕ) (d : ℕ) → JudgedAs file (done f n) →
      d ≡ high_at (kinds_of file n) (operands_of file n) at_function 0 →
      Leaves (script (kinds_of file n) (operands_of file n) f 0) kinds operands
      (record { answer = r; kinds = kinds'; operands = operands' }) →
      Loads file kinds operands (ready d r) kinds' operands'
  unfolding left_of admitted packed
  loads_laid {f} {n} r d j e left =
      by (code_fits fs (room kinds operands)) refl (rw (script_reads a) at left)
    where
      a : AcceptedFile file f n
      a = accepted_file file f n j

      fs : Script
      fs = a.tree

      by : (t : Bool) → code_fits fs (room kinds operands) ≡ t →
          ◌≡◌ {A = CodeLeft} (record { answer = r; kinds = kinds'; operands = operands' }) (left_of fs kinds operands) →
          Loads file kinds operands (ready d r) kinds' operands'
      by true q g =
          let s = rw q at g in
          record {
            is = rw (a.judged_so, q, e, depth_read a) (ap (λ l. ready (main_depth fs) l.answer) s);
            kinds_are = rw (a.judged_so, q) (ap (λ l. l.kinds) s);
            operands_are = rw (a.judged_so, q) (ap (λ l. l.operands) s);
          }
      by false q g =
          let s = rw q at g in
          record {
            is = rw (a.judged_so, q) (ap (λ l. ready d l.answer) s);
            kinds_are = rw (a.judged_so, q) (ap (λ l. l.kinds) s);
            operands_are = rw (a.judged_so, q) (ap (λ l. l.operands) s);
          }

  pub loads_refusal : {n p a : ℕ} → JudgedAs file (stop n p) → a ≡ packed n p 0 0 →
      kinds' ≡ replicate (length kinds) 0 → operands' ≡ replicate (length operands) (pos 0) →
      Loads file kinds operands (Err a) kinds' operands'
  unfolding admitted
  loads_refusal {n} {p} j e k o = record {
    is = rw (refused_so file j, e) refl;
    kinds_are = rw (refused_so file j) k;
    operands_are = rw (refused_so file j) o;
  }
