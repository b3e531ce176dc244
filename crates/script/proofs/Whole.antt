-- The whole file: its two parts, and its verdict.
use Rattle.prelude.specs.Kit.{ℕ, ◌≤◌, ◌+◌, ◌-◌, ◌*◌, arith, true, false, Bool, cond, ◌&&◌, ◌≡◌, refl, ◌∙◌, some, none}
use Rattle.prelude.specs.Kit.{Option, List, [], ◌∷◌, eqb, ltb, leb, length, take, drop, length-take, length-drop}
use Rattle.prelude.specs.Kit.{take_all, eqb-true, leb-true}
use Rattle.semantics.specs.Outcome.{Outcome, done, stop}
use Rattle.semantics.specs.Number.{bytes_at}
use Rattle.semantics.specs.Syntax.{Script}
use Rattle.semantics.specs.File.{script, read_file, between}
use Rattle.semantics.specs.Names.{name_faults}
use Rattle.semantics.specs.Types.{type_faults}
use Rattle.semantics.specs.Normal.{too_many_names}
use Rattle.semantics.specs.Calls.{judged, judged_script}
use Rattle.script_read.specs.Told.{Parts, told}
use Rattle.script_read.specs.Told as R
use Rattle.laws.specs.Tests.{both_hold}
use Rattle.script_laws.specs.Faults.{Rising}
use Rattle.script_laws.specs.Nodes.{names_rise, types_rise, first_least}
use Rattle.script.specs.Verdicts.{Readable, told_verdict, JudgedAs, refused_by, listed, checked_as}

-- the parts as the code passes them on
abbrev pub kinds_of : List ℕ → ℕ → List ℕ
kinds_of l n = take (4 + n - 4) (drop 4 l)

abbrev pub operands_of : List ℕ → ℕ → List ℕ
operands_of l n = take (length l - (4 + n)) (drop (4 + n) l)

file_parts : (l : List ℕ) (n : ℕ) → n ≤ 1024 → length l ≡ 4 + 9 * n → Parts (kinds_of l n) (operands_of l n)
file_parts l n h e = record {
  few = simp (length-take, length-drop) (omega arith);
  whole = simp (length-take, length-drop) (omega arith);
}

-- a file that the reader takes, with its sizes
pub record FileTaken (l : List ℕ) (f n : ℕ) : Type 0 where
  pub long : length l ≡ 4 + 9 * n
  pub readable : Readable (kinds_of l n) (operands_of l n) f
  pub same : script (kinds_of l n) (operands_of l n) f 0 ≡ read_file l
  pub sized : length (kinds_of l n) ≡ n

-- the script behind an answer that goes on
tree_of : (o : Outcome ℕ Script) (q : ℕ) → R.Next q ≡ told o → (fs : Script) × (o ≡ done fs q)
tree_of (done fs p) q e = let i : p ≡ q = cc in (fs, rw i)
tree_of (stop n p) q e = let z : ◌≡◌ {A = ℕ} 0 1 = cc in absurd (omega arith)

module _ (l : List ℕ) (f n q : ℕ) (fe : f ≡ bytes_at 2 l 0) (ne : n ≡ bytes_at 2 l 2) where
  parts_same : length l ≡ 4 + 9 * n →
      script (kinds_of l n) (operands_of l n) f 0 ≡ script (take n (drop 4 l)) (drop (4 + n) l) f 0
  parts_same g =
      let i : 4 + n - 4 ≡ n = omega arith in
      let j : operands_of l n ≡ drop (4 + n) l =
      take_all (length l - (4 + n)) (drop (4 + n) l) (omega (arith, length-drop (4 + n) l)) in
      rw (i, j)

  pub taken : R.Next q ≡ told (read_file l) → FileTaken l f n
  unfolding read_file
  taken e =
      go (ltb (length l) 4) refl (between 1 32 f && between 1 1024 n) refl (eqb (length l) (4 + 9 * n)) refl
      (rw (← fe, ← ne) at e)
    where
      go : (s : Bool) → ltb (length l) 4 ≡ s → (t : Bool) → (between 1 32 f && between 1 1024 n) ≡ t →
          (u : Bool) → eqb (length l) (4 + 9 * n) ≡ u →
          R.Next q ≡ told (cond s (stop 1 0)
          (cond t (cond u (script (take n (drop 4 l)) (drop (4 + n) l) f 0) (stop 1 0)) (stop 2 0))) →
          FileTaken l f n
      go true i t j u g e = let z : ◌≡◌ {A = ℕ} 0 1 = cc in absurd (omega arith)
      go false i false j u g e = let z : ◌≡◌ {A = ℕ} 0 1 = cc in absurd (omega arith)
      go false i true j false g e = let z : ◌≡◌ {A = ℕ} 0 1 = cc in absurd (omega arith)
      go false i true j true g e =
          let v = tree_of (script (take n (drop 4 l)) (drop (4 + n) l) f 0) q e in
          let whole = eqb-true (length l) (4 + 9 * n) g in
          let sizes = both_hold (between 1 32 f) (between 1 1024 n) j in
          let functions = both_hold (leb 1 f) (leb f 32) sizes.0 in
          let nodes = both_hold (leb 1 n) (leb n 1024) sizes.1 in
          record {
            long = whole;
            readable = record {
              parts = file_parts l n (leb-true n 1024 nodes.1) whole;
              one = leb-true 1 f functions.0;
              few = leb-true f 32 functions.1;
              tree = v.0;
              end = q;
              reads = parts_same whole ∙ v.1;
            };
            same = parts_same whole ∙ rw (← fe, ← ne, i, j, g);
            sized = simp (length-take, length-drop) (omega arith);
          }

-- the verdict with the first node has the lowest
module _ (l : List ℕ) (r : Outcome ℕ ℕ) where
  by_faults : (fs : Script) (a b : List ℕ) (c : Option ℕ) → Rising a → Rising b →
      r ≡ refused_by 6 a (refused_by 7 b (refused_by 8 (listed c) (done (bytes_at 2 l 0) (bytes_at 2 l 2)))) →
      r ≡ told_verdict l (judged_script fs a b c)
  by_faults fs [] [] none h k e = e
  by_faults fs [] [] (some p) h k e = e
  by_faults fs [] (q ∷ qs) c h k e = rw (first_least q qs k) e
  by_faults fs (p ∷ ps) b c h k e = rw (first_least p ps h) e

  pub judges : r ≡ checked_as (bytes_at 2 l 0) (bytes_at 2 l 2) (read_file l) → JudgedAs l r
  unfolding judged
  judges e = go (read_file l) refl e
    where
      go : (o : Outcome ℕ Script) → read_file l ≡ o → r ≡ checked_as (bytes_at 2 l 0) (bytes_at 2 l 2) o → JudgedAs l r
      go (done fs q) i e =
          rw i (by_faults fs (name_faults fs) (type_faults fs) (too_many_names fs) (names_rise fs) (types_rise fs) e)
      go (stop n p) i e = rw i e

  pub refused : (n p : ℕ) → r ≡ stop n p → R.Refused n p ≡ told (read_file l) → JudgedAs l r
  refused n p e f = judges (e ∙ go (read_file l) f)
    where
      go : (o : Outcome ℕ Script) → R.Refused n p ≡ told o →
          stop n p ≡ checked_as (bytes_at 2 l 0) (bytes_at 2 l 2) o
      go (done fs q) f = let z : ◌≡◌ {A = ℕ} 0 1 = cc in absurd (omega arith)
      go (stop m q) f = cc

  pub checked : {f n : ℕ} → f ≡ bytes_at 2 l 0 → n ≡ bytes_at 2 l 2 → FileTaken l f n →
      r ≡ checked_as f (length (kinds_of l n)) (script (kinds_of l n) (operands_of l n) f 0) → JudgedAs l r
  checked fe ne t e = judges (rw (← fe, ← ne) (rw (t.sized, t.same) at e))
