-- `code_holds`: the code of every accepted script passes the third walk. The table that is worked from the code borrows
-- the same places as the one that is worked from the script, of those that its functions have.
use Rattle.std.specs.Prelude.{ℕ, ◌≤◌, ◌+◌, ◌<◌, suc, zero, true, false, Bool, ◌&&◌, not, ◌≡◌, refl, List, [], ◌∷◌}
use Rattle.std.specs.Prelude.{map, ltb, length, get_or}
use Rattle.prelude.specs.Kit.{arith, dec_lt, false≢true, ◌∙◌, sym, ap, subst, get_or-eq_default, length-map, lt-ltb}
use Rattle.prelude.specs.Kit.{ltb-true}
use Rattle.semantics.specs.Basics.{tabulate}
use Rattle.semantics.specs.Outcome.{Outcome, done, stop}
use Rattle.semantics.specs.Kinds.{Borrowing, picked}
use Rattle.semantics.specs.Syntax.{Parameter, Function, Script, function_at, no_function}
use Rattle.semantics.specs.Normal.{normal_body}
use Rattle.semantics.specs.Live.{Set, empty, uses}
use Rattle.semantics.specs.Borrow.{spent, Table, borrows, borrowed}
use Rattle.semantics.specs.Annotate.{NameDepths, full_style, dying, depths_of, owned_depths, annotate, annotated_in}
use Rattle.semantics.specs.Annotate.{annotated_body}
use Rattle.semantics.specs.Machine.{Routine, no_routine, first_names, routines_from, Program, program_in, program}
use Rattle.semantics.specs.Machine.{routine_of}
use Rattle.semantics.specs.Calls.{accepted, judged}
use Rattle.semantics_lent.specs.Form.{Lent}
use Rattle.semantics_lent.specs.Fit.{no_lent}
use Rattle.semantics_lent.specs.Hold.{names_of, name_in, lent_table, hold}
use Rattle.semantics_lent.specs.Calls.{lent_routines}
use Rattle.laws.specs.Tests.{both_hold, say_and}
use Rattle.laws.specs.Lists.{tabulate_length}
use Rattle.laws.specs.Routines.{length_routines, routine_is}
use Rattle.discipline.proofs.machine.Discipline.{holds_of, Holding, Fitting}
use Rattle.soundness.proofs.borrowing.Rounds.{Within}
use Rattle.soundness.proofs.borrowing.Spending.{StableBy}
use Rattle.soundness.proofs.borrowing.Stable.{Stable, stable}
use Rattle.soundness.proofs.borrowing.Largest.{largest}
use Rattle.soundness.proofs.annotation.Functions as F
use Rattle.soundness.proofs.annotation.Functions.{Accepted}
use Rattle.soundness.proofs.annotation.Accepting.{all_accepted, functions_disciplined}
use Rattle.lent_soundness.specs.Answers.{Ends}
use Rattle.lent_soundness.specs.Counts.{bool_same}
use Rattle.lent_soundness.specs.Functions.{Few, RoutineHolds, AllHold, AllFew, hold_decides}
use Rattle.lent_soundness.specs.Tables.{lent_spends, lent_stable, lent_largest}
use Rattle.lent_soundness.specs.Untouched.{spent_annotated, spent_releases, Moves, formed_moves, moves_releases}
use Rattle.lent_soundness.specs.Untouched.{dying_none, annotated_moves, spared}
use Rattle.lent_soundness.specs.Alike.{picked_alike, holding_alike, spent_alike}

-- ---- the functions of a script's code

-- the parameters with their new names, the first of which is n
abbrev pub new_parameters : List Parameter → ℕ → List Parameter
new_parameters [] n = []
new_parameters (x ∷ xs) n = record { id = n; depth = x.depth } ∷ new_parameters xs (suc n)

-- the functions of a script's code from number f on
abbrev pub lents_from : Script → Table → ℕ → List Function → List Lent
lents_from fs T f [] = []
lents_from fs T f (g ∷ gs) =
    record { parameters = new_parameters g.parameters 0; result = g.result; tree = annotated_body fs T f g }
    ∷ lents_from fs T (suc f) gs

abbrev pub lents_of : Script → List Lent
lents_of fs = lents_from fs (borrowed fs) 0 fs

-- the depths of the names of each
abbrev pub depths_in : Script → List NameDepths
depths_in fs = map (depths_of fs) fs

names_new : (xs : List Parameter) (n : ℕ) → map (λ x. x.id) (new_parameters xs n) ≡ tabulate n (length xs) (λ i. i)
unfolding tabulate
names_new [] n = refl
names_new (x ∷ xs) n = ap (λ (l : List ℕ). n ∷ l) (names_new xs (suc n))

routines_alike : (fs : Script) (T : Table) (f : ℕ) (gs : List Function) →
    lent_routines (lents_from fs T f gs) (map (depths_of fs) gs) ≡ routines_from full_style fs T f gs
unfolding lent_routines routines_from
routines_alike fs T f [] = refl
routines_alike fs T f (g ∷ gs) = λ i.
    record { names = names_new g.parameters 0 i; tree = annotated_body fs T f g; depths = depths_of fs g }
    ∷ routines_alike fs T (suc f) gs i

pub routines_same : (fs : Script) → lent_routines (lents_of fs) (depths_in fs) ≡ (program fs).routines
unfolding program_in
routines_same fs = routines_alike fs (borrowed fs) 0 fs

length_lents : (fs : Script) (T : Table) (f : ℕ) (gs : List Function) → length (lents_from fs T f gs) ≡ length gs
length_lents fs T f [] = refl
length_lents fs T f (g ∷ gs) = ap suc (length_lents fs T (suc f) gs)

-- ---- lent functions as routines

tree_at : (gs : List Lent) (Γs : List NameDepths) → length gs ≡ length Γs → (f : ℕ) →
    (get_or (lent_routines gs Γs) f no_routine).tree ≡ (get_or gs f no_lent).tree
unfolding lent_routines
tree_at [] Γs e f = refl
tree_at (g ∷ gs) [] e f = absurd (omega (arith, e))
tree_at (g ∷ gs) (Γ ∷ Γs) e zero = refl
tree_at (g ∷ gs) (Γ ∷ Γs) e (suc f) = tree_at gs Γs (omega (arith, e)) f

names_at : (gs : List Lent) (Γs : List NameDepths) → length gs ≡ length Γs → (f : ℕ) →
    (get_or (lent_routines gs Γs) f no_routine).names ≡ names_of (get_or gs f no_lent)
unfolding lent_routines
names_at [] Γs e f = refl
names_at (g ∷ gs) [] e f = absurd (omega (arith, e))
names_at (g ∷ gs) (Γ ∷ Γs) e zero = refl
names_at (g ∷ gs) (Γ ∷ Γs) e (suc f) = names_at gs Γs (omega (arith, e)) f

-- ---- names by their places

name_inside : (S : Set) (k n i : ℕ) → i < k → name_in S (tabulate n k (λ j. j)) i ≡ S (n + i)
unfolding tabulate
name_inside S zero n i h = absurd (omega (arith, h))
name_inside S (suc k) n zero h = ap S (let z : n ≡ n + 0 = omega arith in z)
name_inside S (suc k) n (suc i) h =
    name_inside S k (suc n) i (omega (arith, h)) ∙ ap S (let z : suc n + i ≡ n + suc i = omega arith in z)

name_past : (S : Set) (k n i : ℕ) → k ≤ i → name_in S (tabulate n k (λ j. j)) i ≡ false
unfolding tabulate
name_past S zero n i h = refl
name_past S (suc k) n zero h = absurd (omega (arith, h))
name_past S (suc k) n (suc i) h = name_past S k (suc n) i (omega (arith, h))

-- ---- all of some routines

all_few : (rs : List Routine) → ((f : ℕ) → Few (get_or rs f no_routine).depths) → AllFew rs
all_few [] h = tt
all_few (r ∷ rs) h = (h 0, all_few rs (λ f. h (suc f)))

all_hold : (B : Borrowing) (f : ℕ) (rs : List Routine) →
    ((i : ℕ) → RoutineHolds B (B (f + i)) (get_or rs i no_routine)) → AllHold B f rs
all_hold B f [] h = tt
all_hold B f (r ∷ rs) h = (
  subst (λ (k : ℕ). RoutineHolds B (B k) r) (let z : f + 0 ≡ f = omega arith in z) (h 0),
  all_hold B (suc f) rs (λ i. subst (λ (k : ℕ). RoutineHolds B (B k) (get_or rs i no_routine))
      (let z : f + suc i ≡ suc f + i = omega arith in z) (h (suc i))),
)

-- the third walk ends with the code's table
pub record HoldsCode (gs : List Lent) (Γs : List NameDepths) : Type 0 where
  pub at : ℕ
  pub is : hold gs Γs ≡ done (lent_table gs) at

-- ---- over an accepted script

module _ (file : List ℕ) (fs : Script) (ok : judged file ≡ accepted fs) where
  abbrev gs : List Lent
  gs = lents_of fs

  abbrev p : Program
  p = program fs

  -- the two tables
  abbrev β : Borrowing
  β = borrows (borrowed fs)

  abbrev β' : Borrowing
  β' = borrows (lent_table gs)

  abbrev arity : ℕ → ℕ
  arity f = length (function_at fs f).parameters

  function_ok : (f : ℕ) → Accepted fs (function_at fs f)
  function_ok = all_accepted file fs ok

  as_many : length gs ≡ length (depths_in fs)
  as_many = length_lents fs (borrowed fs) 0 fs ∙ sym (length-map fs (depths_of fs))

  lent_tree : (f : ℕ) → (get_or gs f no_lent).tree ≡ (routine_of p f).tree
  lent_tree f = sym (tree_at gs (depths_in fs) as_many f)
      ∙ ap (λ (rs : List Routine). (get_or rs f no_routine).tree) (routines_same fs)

  lent_names : (f : ℕ) → names_of (get_or gs f no_lent) ≡ (routine_of p f).names
  lent_names f = sym (names_at gs (depths_in fs) as_many f)
      ∙ ap (λ (rs : List Routine). (get_or rs f no_routine).names) (routines_same fs)

  routine_names : (f : ℕ) → (routine_of p f).names ≡ first_names (function_at fs f).parameters
  unfolding tabulate
  routine_names f = elim (dec_lt f (length fs)) [
    | yes h ↦ ap (λ (r : Routine). r.names) (routine_is fs f h)
    | no h ↦
        ap (λ (r : Routine). r.names)
        (get_or-eq_default p.routines no_routine {n = f} (omega (arith, length_routines fs)))
        ∙ sym (ap (λ (g : Function). first_names g.parameters)
        (get_or-eq_default fs no_function {n = f} (omega arith)))
  ]

  names_first : (f : ℕ) → names_of (get_or gs f no_lent) ≡ first_names (function_at fs f).parameters
  names_first f = lent_names f ∙ routine_names f

  -- what the code spends of a function's parameters, and at other places
  spends_inside : (B : Borrowing) (f i : ℕ) → i < arity f →
      lent_spends gs B f i ≡ spent B (routine_of p f).tree i
  spends_inside B f i h =
      ap (λ (xs : List ℕ). name_in (spent B (get_or gs f no_lent).tree) xs i) (names_first f)
      ∙ name_inside (spent B (get_or gs f no_lent).tree) (arity f) 0 i h
      ∙ (λ j. spent B (lent_tree f j) (let z : 0 + i ≡ i = omega arith in z j))

  spends_past : (B : Borrowing) (f i : ℕ) → arity f ≤ i → lent_spends gs B f i ≡ false
  spends_past B f i h =
      ap (λ (xs : List ℕ). name_in (spent B (get_or gs f no_lent).tree) xs i) (names_first f)
      ∙ name_past (spent B (get_or gs f no_lent).tree) (arity f) 0 i h

  -- ---- the script's table keeps the code's rule

  module _ (f : ℕ) (h : f < length fs) where
    abbrev g : Function
    g = function_at fs f

    abbrev lent : Set
    lent = λ y. ltb y (length g.parameters) && β f y

    numbers : (n : ℕ) → lent n ≡ true → owned_depths fs (borrowed fs) f g n ≡ 0
    numbers = (F.owned fs g (function_ok f) full_style f ((stable fs).kept f)).numbers

    body_moves : Moves lent (annotated_body fs (borrowed fs) f g)
    unfolding annotated_in
    body_moves =
        let t = normal_body g in
        let Γ' = owned_depths fs (borrowed fs) f g in
        let given : Set = λ x. ltb x (length g.parameters) in
        moves_releases lent (dying Γ' given (uses t)) (annotate full_style β Γ' t empty)
        (dying_none lent full_style β Γ' numbers given (uses t))
        (annotated_moves lent full_style β Γ' numbers t empty
        (formed_moves lent (F.functions_in fs) (depths_of fs g) t given (length g.parameters) g.result
        (F.formed fs g (function_ok f))))

    body_spared : (n : ℕ) → lent n ≡ true → spent β (annotated_body fs (borrowed fs) f g) n ≡ false
    body_spared n e = spared lent β n e (annotated_body fs (borrowed fs) f g)
        (F.spares fs g (function_ok f) full_style f ((stable fs).kept f)) body_moves

    pub tree_spared : (i : ℕ) → i < arity f → β f i ≡ true → spent β (routine_of p f).tree i ≡ false
    tree_spared i q e =
        ap (λ (r : Routine). spent β r.tree i) (routine_is fs f h)
        ∙ body_spared i (say_and (ltb i (arity f)) (β f i) (lt-ltb i (arity f) q) e)

  no_arity : (f : ℕ) → length fs ≤ f → arity f ≡ 0
  no_arity f h = ap (λ (g : Function). length g.parameters) (get_or-eq_default fs no_function {n = f} h)

  script_keeps : StableBy (lent_spends gs) β
  script_keeps = record {
    small = (stable fs).small;
    main_owns = (stable fs).main_owns;
    kept = λ f i e. elim (dec_lt i (arity f)) [
      | yes q ↦ elim (dec_lt f (length fs)) [
        | yes h ↦ spends_inside β f i q ∙ tree_spared f h i q e
        | no h ↦ absurd (omega (arith, q, no_arity f (omega (arith, h))))
      ]
      | no q ↦ spends_past β f i (omega (arith, q))
    ];
  }

  lent_more : Within β β'
  lent_more = lent_largest gs β script_keeps

  -- ---- the code's table, at places that functions have, keeps the script's rule

  abbrev U : Borrowing
  U f i = β' f i && ltb i (arity f)

  signature_arity : (f : ℕ) → length (p.signatures f).parameters ≡ arity f
  unfolding program_in
  signature_arity f = length-map (function_at fs f).parameters (λ x. x.depth)

  fitting : (f : ℕ) → Fitting p (routine_of p f).depths (routine_of p f).tree (p.signatures f).result
  fitting f = (functions_disciplined file fs ok f).fits

  U_same : (f i : ℕ) → i < length (p.signatures f).parameters → U f i ≡ β' f i
  U_same f i q = rw (lt-ltb i (arity f) (omega (arith, q, signature_arity f))) (and_true (β' f i))
    where
      and_true : (b : Bool) → (b && true) ≡ b
      and_true true = refl
      and_true false = refl

  more_spent : (f i : ℕ) → spent U (normal_body (function_at fs f)) i ≡ true →
      spent U (annotated_body fs (borrowed fs) f (function_at fs f)) i ≡ true
  unfolding annotated_in
  more_spent f i e =
      let g = function_at fs f in
      let Γ' = owned_depths fs (borrowed fs) f g in
      let t = normal_body g in
      spent_releases U (dying Γ' (λ x. ltb x (length g.parameters)) (uses t)) (annotate full_style β Γ' t empty) i
      (spent_annotated U full_style β Γ' t empty i e)

  none_spent : (f i : ℕ) (b : Bool) → spent U (normal_body (function_at fs f)) i ≡ b →
      spent U (annotated_body fs (borrowed fs) f (function_at fs f)) i ≡ false → b ≡ false
  none_spent f i true q r = absurd (false≢true (sym r ∙ more_spent f i q))
  none_spent f i false q r = refl

  not_spent : (f i : ℕ) → i < arity f → spent U (routine_of p f).tree i ≡ false →
      spent U (normal_body (function_at fs f)) i ≡ false
  not_spent f i inside e = elim (dec_lt f (length fs)) [
    | yes h ↦ none_spent f i (spent U (normal_body (function_at fs f)) i) refl
        (sym (ap (λ (r : Routine). spent U r.tree i) (routine_is fs f h)) ∙ e)
    | no h ↦ absurd (omega (arith, inside, no_arity f (omega (arith, h))))
  ]

  code_keeps : Stable fs U
  code_keeps = record {
    small = λ f i e. (lent_stable gs).small f i (both_hold (β' f i) (ltb i (arity f)) e).0;
    main_owns = λ i. ap (λ (b : Bool). b && ltb i (arity 0)) ((lent_stable gs).main_owns i);
    kept = λ f i e.
        let both = both_hold (β' f i) (ltb i (arity f)) e in
        let inside = ltb-true i (arity f) both.1 in
        let none : spent β' (routine_of p f).tree i ≡ false =
        sym (spends_inside β' f i inside) ∙ (lent_stable gs).kept f i both.0 in
        not_spent f i inside
        (spent_alike p (routine_of p f).depths U β' U_same (routine_of p f).tree (p.signatures f).result
        (fitting f) i ∙ none);
  }

  code_fewer : (f i : ℕ) → i < arity f → β' f i ≡ true → β f i ≡ true
  code_fewer f i h e = largest fs U code_keeps f i (say_and (β' f i) (ltb i (arity f)) e (lt-ltb i (arity f) h))

  pub tables_agree : (f i : ℕ) → i < length (p.signatures f).parameters → β f i ≡ β' f i
  tables_agree f i h = bool_same (β f i) (β' f i) (lent_more f i)
      (code_fewer f i (omega (arith, h, signature_arity f)))

  -- ---- so every function holds by the code's table

  as_named : (f : ℕ) → length (routine_of p f).names ≡ length (p.signatures f).parameters
  as_named f = ap (λ (l : List ℕ). length l) (routine_names f)
      ∙ tabulate_length (arity f) 0 (λ i. i) ∙ sym (signature_arity f)

  disciplined : (f : ℕ) → RoutineHolds β (β f) (routine_of p f)
  unfolding program_in
  disciplined f = (functions_disciplined file fs ok f).holds

  holds_alike : (f : ℕ) → RoutineHolds β' (β' f) (routine_of p f)
  holds_alike f =
      let r = routine_of p f in
      let Γ = r.depths in
      let lent = picked_alike (β f) (β' f) 0 r.names (λ i h q. tables_agree f i (omega (arith, q, as_named f))) in
      let owned = picked_alike (λ i. not (β f i)) (λ i. not (β' f i)) 0 r.names
      (λ i h q. ap not (tables_agree f i (omega (arith, q, as_named f)))) in
      subst (λ (xs : List ℕ). Holding β' Γ (holds_of Γ xs) r.tree
      (holds_of Γ (picked (λ i. not (β' f i)) 0 r.names)) [] []) lent
      (subst (λ (xs : List ℕ). Holding β' Γ (holds_of Γ (picked (β f) 0 r.names)) r.tree (holds_of Γ xs) [] [])
      owned
      (holding_alike p Γ β β' tables_agree r.tree (p.signatures f).result (fitting f) _ _ [] [] (disciplined f)))

  few_names : (f : ℕ) → Few (routine_of p f).depths
  few_names f = elim (dec_lt f (length fs)) [
    | yes h ↦ subst (λ (r : Routine). Few r.depths) (sym (routine_is fs f h))
        (F.few_names fs (function_at fs f) (function_ok f))
    | no h ↦ subst (λ (r : Routine). Few r.depths)
        (sym (get_or-eq_default p.routines no_routine {n = f} (omega (arith, length_routines fs))))
        (λ n q. refl)
  ]

  pub code_few : AllFew (lent_routines gs (depths_in fs))
  code_few = subst AllFew (sym (routines_same fs)) (all_few p.routines few_names)

  pub code_hold : AllHold β' 0 (lent_routines gs (depths_in fs))
  code_hold = subst (AllHold β' 0) (sym (routines_same fs)) (all_hold β' 0 p.routines (λ i.
      subst (λ (k : ℕ). RoutineHolds β' (β' k) (get_or p.routines i no_routine))
      (let z : i ≡ 0 + i = omega arith in z) (holds_alike i)))

  -- the walk ends, at some line
  pub code_holds : HoldsCode gs (depths_in fs)
  code_holds = go (hold gs (depths_in fs)) refl (hold_decides gs (depths_in fs) code_few)
    where
      go : (o : Outcome ℕ Table) → hold gs (depths_in fs) ≡ o →
          Ends (AllHold β' 0 (lent_routines gs (depths_in fs)) → ⊥)
          (λ T. (T ≡ lent_table gs) × AllHold β' 0 (lent_routines gs (depths_in fs))) o →
          HoldsCode gs (depths_in fs)
      go (done T q) e h = record { at = q; is = e ∙ ap (λ (Y : Table). done Y q) h.0 }
      go (stop n q) e h = absurd (h code_hold)
