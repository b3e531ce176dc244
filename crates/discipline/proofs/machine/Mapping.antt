-- The line of a map: its cell is reserved, its passes fill it.
use Rattle.prelude.specs.Kit.{ℕ, ◌≤◌, ◌+◌, ◌<◌, suc, pred, arith, true, ◌≡◌, refl, ◌∙◌, sym, ap, subst, List, [], ◌∷◌}
use Rattle.prelude.specs.Kit.{ℤ, pos, length, get_or}
use Rattle.semantics.specs.Outcome.{onward, ◌>>=◌, ◌>>◌, give, require}
use Rattle.semantics.specs.Value.{Value, num, items}
use Rattle.semantics.specs.Kinds.{mapping}
use Rattle.semantics.specs.Code.{Atom, loop, Tree, ending}
use Rattle.semantics.specs.Live.{Set, after_pass}
use Rattle.semantics.specs.Annotate.{atom_depth}
use Rattle.semantics.specs.Meaning.{Meter, Env, do_pass, do_loop, with_item}
use Rattle.semantics.specs.Meaning as Meaning
use Rattle.semantics.specs.Machine.{State, Frame, word, work_line, work_pass, append_word, work, binding}
use Rattle.semantics.specs.Machine as Machine
use Rattle.semantics.specs.Store.{Store, cell_of}
use Rattle.semantics.specs.Plain.{value, run, run_line}
use Rattle.discipline.proofs.normal.Trace.{CalleeGrows}
use Rattle.discipline.proofs.machine.Growth.{give_grows, require_grows, bind_grows, pass_grows, tree_grows}
use Rattle.discipline.proofs.machine.Agreement.{Agree, both}
use Rattle.discipline.proofs.machine.Frames.{Setting}
use Rattle.discipline.proofs.machine.Binding.{ended_depth}
use Rattle.discipline.proofs.machine.Size.{tree_adds, line_adds}
use Rattle.discipline.proofs.machine.Situations.{situation_less}
use Rattle.discipline.proofs.machine.Fits.{map_fits, first_same}
use Rattle.discipline.proofs.machine.Rules.{LineRules}
use Rattle.discipline.proofs.machine.Claims.{TreeClaim, LineClaim}
use Rattle.discipline.proofs.machine.Sites.{loop_site, one_part}
use Rattle.discipline.proofs.machine.Filled.{Fills, Carried, filling_pass, put_behind, filling_line}

module _ (C : Setting) {x p : ℕ} {a : Atom} {t : Tree} {B : List ℕ} {T A : Set} {H P Δ : List ℕ}
    (rules : LineRules C (loop x mapping (p ∷ []) (a ∷ []) t) B T A H P Δ) (claim : TreeClaim C t) where
  -- the depth of the result's elements, which the tree gives
  abbrev d : ℕ
  d = pred (C.depths x)

  fits : (atom_depth C.depths (ending t) ≤ 3) × (C.depths x ≡ suc (atom_depth C.depths (ending t)))
  fits = map_fits (atom_depth C.depths a) (atom_depth C.depths (ending t)) (C.depths x) rules.fits.0.gives

  given_depth : atom_depth C.depths (ending t) ≡ d
  given_depth = sym (ap pred fits.1)

  shallow : d ≤ 3
  shallow = subst (λ (k : ℕ). k ≤ 3) given_depth fits.0

  map_fills : Fills C x mapping (p ∷ []) (a ∷ []) t a p B T A H P Δ d
  map_fills = record {
    site = loop_site C rules refl refl (first_same rules.fits.0.names) rules.fits.0.deep;
    claim = claim;
    spends = refl;
    carries = refl;
    new = rules.scoped.2.0.unknown;
    result = ap suc (sym given_depth) ∙ sym fits.1;
  }

  map_pass : CalleeGrows C.meant → (Z F R : List ℕ) (ρ : Frame) (δ : Env) (n : ℕ) → C.need ≤ n → (σ : Store) (i : ℕ)
      (w : ℤ) (v : Value) (s : State) (m : Meter) → i < length (items (value δ a)) →
      Carried C map_fills Z F ρ δ (tree_adds t) n R σ i w s v m →
      Agree C.start (Carried C map_fills Z F ρ δ (tree_adds t) n R σ (suc i))
      (work_pass mapping d (λ vs. work C.callee C.program.borrowing C.depths t (after_pass x (p ∷ []) t A) R
      (binding (p ∷ []) vs ρ)) (word ρ a) w i s)
      (do_pass mapping (λ vs. run C.meant t (Meaning.binding (p ∷ []) vs δ)) v
      (get_or (items (value δ a)) i (num (pos 0))) m)
  unfolding work_pass do_pass append_word onward require
  map_pass grows Z F R ρ δ n need σ i w v s m within q =
      filling_pass C map_fills Z F ρ δ (tree_adds t) n grows R (omega arith) need
      (λ e r. require true 28 >> Machine.carried_on mapping d (word ρ a) i w e r)
      (λ r. require true 28 >> give (with_item v r))
      (λ r. bind_grows (require_grows true 28) (λ _. give_grows (with_item v r))) within q
      (λ τ r s' y m' between item E.
      both (put_behind C map_fills Z F ρ δ (tree_adds t) n between item.few (ended_depth C given_depth E)))

module _ (C : Setting) (grows : CalleeGrows C.meant) where
  map_line : (x p : ℕ) (a : Atom) (t : Tree) → TreeClaim C t → LineClaim C (loop x mapping (p ∷ []) (a ∷ []) t)
  unfolding work_line run_line do_loop line_adds cell_of onward
  map_line x p a t claim B T A H P Δ rules Z F R ρ δ n s m tog S need =
      filling_line C (map_fills C rules claim) Z F ρ δ (tree_adds t) n R _ _
      (pass_grows mapping _ (λ vs. tree_grows C.meant grows t _)) (shallow C rules claim)
      (λ c. map_pass C rules claim grows Z F _ ρ δ n need) s m tog
      (situation_less (suc (tree_adds t + n)) S (omega arith))

  pub line_mapping : (x : ℕ) (ps : List ℕ) (us : List Atom) (t : Tree) → TreeClaim C t →
      LineClaim C (loop x mapping ps us t)
  line_mapping x ps us t claim = one_part C mapping ps us t refl (λ Γ vs. refl) (λ p a. map_line x p a t claim)
