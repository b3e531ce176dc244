-- What the rounds leave is the table of borrowed parameters: the rounds took away nothing that a stable table has, and
-- what they left is stable.
use Rattle.prelude.specs.Kit.{ℕ, ◌≤◌, ◌<◌, suc, zero, arith, true, false, Bool, cond, not, false≢true, ◌||◌, ◌≡◌, refl}
use Rattle.prelude.specs.Kit.{◌∙◌, sym, List, length, replicate}
use Rattle.semantics.specs.Syntax.{Script}
use Rattle.semantics.specs.Borrow.{Table, borrows, all_borrowed, same_table, reworked, worked_out, borrowed}
use Rattle.script_read.proofs.Written.{total}
use Rattle.soundness.proofs.borrowing.Rounds.{Shaped, entry_small, all_shaped, reworked_shaped}
use Rattle.soundness.proofs.borrowing.Stable.{Stable, stable}
use Rattle.soundness.proofs.borrowing.Largest.{largest}
use Rattle.borrow_table.specs.Gathered.{Gathered, passed}
use Rattle.borrow_table.specs.Rounds.{Within, Kept, Settled}
use Rattle.borrow_table.proofs.Tables.{same_entries}
use Rattle.borrow_table.proofs.Working.{reduced_none}
use Rattle.borrow_table.proofs.Gathering.{all_but_main, gather_begin, gather_ends}

neither : (a b : Bool) → (not a || b) ≡ false → (a ≡ true) × (b ≡ false)
neither true b e = (refl, e)
neither false b e = absurd (false≢true (sym e))

both_true : (a b : Bool) → (a ≡ true → b ≡ true) → (b ≡ true → a ≡ true) → a ≡ b
both_true true b f g = sym (f refl)
both_true false true f g = g refl
both_true false false f g = refl

worked_shaped : (fs : Script) (n : ℕ) (T : Table) → Shaped T → Shaped (worked_out n fs T)
unfolding worked_out
worked_shaped fs zero T s = s
worked_shaped fs (suc n) T s =
    by (same_table T (reworked fs T)) (worked_shaped fs n (reworked fs T) (reworked_shaped fs T))
  where
    by : (b : Bool) → Shaped (worked_out n fs (reworked fs T)) →
        Shaped (cond b T (worked_out n fs (reworked fs T)))
    by true next = s
    by false next = next

borrowed_shaped : (fs : Script) → Shaped (borrowed fs)
unfolding borrowed
borrowed_shaped fs = worked_shaped fs 257 all_borrowed all_shaped

module _ {fs : Script} {D : Table} {links : List ℕ} (g : Gathered fs D links) where
  -- a table within the first one that the links leave as it is
  table_stable : {T : Table} → Shaped T → Within T D → Kept links T → Stable fs (borrows T)
  table_stable {T} s w k = record {
    small = entry_small T s;
    main_owns = λ i. owned i (borrows T 0 i) refl;
    kept = λ f i e. let l = entry_small T s f i e in
        g.at T f i (some f i e) l.0 l.1 ∙ rw (w f i e) (k.at f i e);
  }
    where
      owned : (i : ℕ) (b : Bool) → borrows T 0 i ≡ b → b ≡ false
      owned i true e = absurd (false≢true (sym (g.main_owns i) ∙ w 0 i e))
      owned i false e = refl

      some : (f i : ℕ) → borrows T f i ≡ true → 0 < f
      some zero i e = absurd (false≢true (sym (g.main_owns i) ∙ w 0 i e))
      some (suc f) i e = omega arith

  parts : (f i : ℕ) → borrows (borrowed fs) f i ≡ true →
      (borrows D f i ≡ true) × (passed links (borrowed fs) f i ≡ false)
  parts zero i e = absurd (false≢true (sym ((stable fs).main_owns i) ∙ e))
  parts (suc f) i e =
      let small = (stable fs).small (suc f) i e in
      neither (borrows D (suc f) i) (passed links (borrowed fs) (suc f) i)
      (sym (g.at (borrowed fs) (suc f) i (omega arith) small.0 small.1) ∙ (stable fs).kept (suc f) i e)

  pub settled_is : {r : Table} → Settled links D r → r ≡ borrowed fs
  settled_is {r} v =
      let reduced = v.reduced in
      same_entries reduced.shaped (borrowed_shaped fs) (λ f i l m.
      both_true (borrows r f i) (borrows (borrowed fs) f i)
      (largest fs (borrows r) (table_stable reduced.shaped reduced.within v.kept) f i)
      (reduced.keeps (borrowed fs) (λ f i e. (parts f i e).0) record { at = λ f i e. (parts f i e).1 } f i))

-- a script of one function
pub alone_is : (fs : Script) → total fs ≤ 1024 → length fs ≤ 1 → all_but_main ≡ borrowed fs
unfolding passed
alone_is fs h e =
    let v = gather_begin fs (replicate 1024 0) refl h in
    settled_is (gather_ends v e) record {
      reduced = reduced_none v.shaped;
      kept = record { at = λ f i m. refl };
    }
