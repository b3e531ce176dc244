-- `form_said`: where `form` accepts, the lines are the rows of the functions that it gives, and these are in form.
use Rattle.std.specs.Prelude.{ℕ, ◌≤◌, ◌+◌, ◌<◌, suc, zero, ◌*◌, min, pred, true, false, Bool, ◌||◌, ◌≡◌, refl, List}
use Rattle.std.specs.Prelude.{[], ◌∷◌, ◌++◌, map, eqb, ltb, ℤ, pos, length, get_or}
use Rattle.prelude.specs.Kit.{arith, ◌∙◌, sym, ap, subst, some, none, Option, append-nil, length-append, length-take}
use Rattle.prelude.specs.Kit.{length-map, drop_of_length-le, eqb-true, ltb-false}
use Rattle.semantics.specs.Outcome.{done, onward, ◌>>=◌, give, times}
use Rattle.semantics.specs.Syntax.{Parameter}
use Rattle.semantics.specs.Code as C
use Rattle.semantics.specs.Code.{Atom, Tree, Row, row, Line, leaf, if_else, loop, retain, release, end, line}
use Rattle.semantics_lent.specs.Form.{Test, must, Parts, parts_of, Lent, row_here, in_range, atoms, line_of, tree_form}
use Rattle.semantics_lent.specs.Form.{parameter_form, function_form, unless_ended, functions_form, code_form, form}
use Rattle.semantics_lent.specs.Form.{code_length, paired, lent_rows, goes_on, arities_of, fault}
use Rattle.lent_passing.specs.Ends.{Ends, ends_then, ends_required, ended}
use Rattle.lent_passing.specs.Reading.{Formed, LineFormed, LeafFormed}
use Rattle.semantics.specs.Kinds.{Leaf, operation, call, literal, index, length_of, iota, replicate}
use Rattle.lent_passing.specs.Said.{packing, Within, PartsSay, parts_say, LeafCalls, LeafSays, Has, row_is}
use Rattle.lent_passing.specs.SaidTrees.{Stand, stand_both, stand_same, HereSays, here_says, AtomsHere}
use Rattle.lent_passing.specs.SaidTrees.{atoms_here_say, row_and_atoms, Says, tree_says}
use Rattle.lent_passing.specs.Functions.{parameter_row, lent_function, lent_code, ParametersFormed}
use Rattle.lent_passing.specs.Functions.{FunctionsFormed}
use Rattle.lent_passing.specs.Arities.{arity, Stated, arities_are}

-- a function in code of n functions
pub record Lined (n : ℕ) (g : Lent) : Type 0 where
  pub few : length g.parameters ≤ 8
  pub result : g.result ≤ 4
  pub parameters : ParametersFormed g.parameters
  pub tree : Formed (LeafCalls n) 64 g.tree

abbrev pub AllLined : ℕ → List Lent → Type 0
AllLined n [] = Unit {0}
AllLined n (g ∷ gs) = Lined n g × AllLined n gs

-- the same by the numbers of the functions' parameters
pub record LinedBy (arities : List (Option ℕ)) (g : Lent) : Type 0 where
  pub few : length g.parameters ≤ 8
  pub result : g.result ≤ 4
  pub parameters : ParametersFormed g.parameters
  pub tree : Formed (LeafSays arities) 64 g.tree

abbrev pub AllLinedBy : List (Option ℕ) → List Lent → Type 0
AllLinedBy arities [] = Unit {0}
AllLinedBy arities (g ∷ gs) = LinedBy arities g × AllLinedBy arities gs

-- what is asked of leaves may be replaced
module _ (P Q : Leaf → ℕ → Type 0) (more : (l : Leaf) (m : ℕ) → P l m → Q l m) where
  mutual
    formed_more : (t : Tree) (levels : ℕ) → Formed P levels t → Formed Q levels t
    formed_more (end a) levels h = h
    formed_more (line l t) levels h = (line_more l levels h.0, formed_more t levels h.1)

    line_more : (l : Line) (levels : ℕ) → LineFormed P levels l → LineFormed Q levels l
    line_more (leaf x l us) levels h = (h.0, (h.1.0, more l (length us) h.1.1))
    line_more (if_else x g t e) levels h =
        (h.0, (h.1.0, (formed_more t (pred levels) h.1.1.0, formed_more e (pred levels) h.1.1.1)))
    line_more (loop x k ps us t) levels h =
        (h.0, (h.1.0, (h.1.1.0, formed_more t (pred levels) h.1.1.1)))
    line_more (retain x) levels h = h
    line_more (release x) levels h = h

calls_below : (arities : List (Option ℕ)) (l : Leaf) (m : ℕ) → LeafSays arities l m → LeafCalls (length arities) l m
calls_below arities (operation o) m h = h
calls_below arities (call f) m h = h.1.0
calls_below arities (literal d) m h = h
calls_below arities index m h = h
calls_below arities length_of m h = h
calls_below arities iota m h = h
calls_below arities replicate m h = h

known_arity : (gs : List Lent) (f m : ℕ) → f < length (map arity gs) → Has (get_or (map arity gs) f none) m →
    get_or (map arity gs) f none ≡ some m
known_arity [] f m h e = absurd (let z : ⊥ = omega (arith, h) in z)
known_arity (g ∷ gs) zero m h e = ap (λ (n : ℕ). some n) (sym e)
known_arity (g ∷ gs) (suc f) m h e = known_arity gs f m (omega (arith, h)) e

calls_known : (gs : List Lent) (l : Leaf) (m : ℕ) → LeafSays (map arity gs) l m → LeafFormed (map arity gs) l m
calls_known gs (operation o) m h = h
calls_known gs (call f) m h = (h.0, (h.1.0, known_arity gs f m h.1.0 h.1.1))
calls_known gs (literal d) m h = h
calls_known gs index m h = h
calls_known gs length_of m h = h
calls_known gs iota m h = h
calls_known gs replicate m h = h

all_lined : (arities : List (Option ℕ)) (gs : List Lent) → AllLinedBy arities gs → AllLined (length arities) gs
all_lined arities [] h = tt
all_lined arities (g ∷ gs) h = (
  record {
    few = h.0.few;
    result = h.0.result;
    parameters = h.0.parameters;
    tree = formed_more (LeafSays arities) (LeafCalls (length arities)) (calls_below arities) g.tree 64 h.0.tree;
  },
  all_lined arities gs h.1,
)

all_formed : (fs gs : List Lent) → AllLinedBy (map arity fs) gs → length (lent_code gs) ≤ 4096 →
    FunctionsFormed (map arity fs) gs
unfolding lent_code
all_formed fs [] h l = tt
all_formed fs (g ∷ gs) h l =
    let y = length-append (lent_function g) (lent_code gs) in
    let z = length-append (map parameter_row g.parameters) (C.rows g.tree) in (
      record {
        few = h.0.few;
        result = h.0.result;
        parameters = h.0.parameters;
        tree = formed_more (LeafSays (map arity fs)) (LeafFormed (map arity fs)) (calls_known fs) g.tree 64
            h.0.tree;
        short = omega (arith, l, y, z);
      },
      all_formed fs gs h.1 (omega (arith, l, y)),
    )

module _ (rows : List Row) (arities : List (Option ℕ)) (over : Bool) where
  abbrev Here : ℕ → ℕ → List Row → Type 0
  Here = Stand rows arities over

  -- a line without atoms
  pub record LineSays (k p : ℕ) (q : Parts) (s : ℕ) : Type 0 where
    pub range : Within k q
    pub stand : Here p s (row k (packing q) ∷ [])

  line_says : (k p : ℕ) → Ends (LineSays k p) (line_of rows arities over k p)
  unfolding line_of onward
  line_says k p =
      ends_then (HereSays rows arities over p) (LineSays k p) _ (row_here rows arities over p)
      (here_says rows arities over p) (λ r s h.
      ends_then (λ (u : Unit {0}) (t : ℕ). (eqb r.kind k ≡ true) × (t ≡ s)) (LineSays k p) _
      (must (eqb r.kind k) s)
      (ends_required (eqb r.kind k) 29 s) (λ u t g.
      subst (λ (i : ℕ). Ends (LineSays k p) (onward (λ (q : Parts). atoms rows arities over (some 0) >>= λ us. give q)
      (in_range rows arities over (parts_of k r.operand) i))) (sym (g.1 ∙ h.0))
      (by_parts r h.1 (eqb-true r.kind k g.0) (parts_of k r.operand) (parts_say k r.operand))))
    where
      ends_so : (r : Row) → Here p (p + 1) (r ∷ []) → r.kind ≡ k → (q : Parts) → r.operand ≡ pos (packing q) →
          Within k q → (us : List Atom) (s : ℕ) → AtomsHere rows arities over (some 0) p us s → LineSays k p q s
      ends_so r here e q z w [] s h = record {
        range = w;
        stand = row_and_atoms rows arities over (some 0) p s r (row k (packing q)) [] here
            (row_is r k (pos (packing q)) e z) h;
      }
      ends_so r here e q z w (a ∷ us) s h = absurd (omega (arith, h.has))

      by_parts : (r : Row) → Here p (p + 1) (r ∷ []) → r.kind ≡ k → (o : Option Parts) → PartsSay k r.operand o →
          Ends (LineSays k p) (onward (λ (q : Parts). atoms rows arities over (some 0) >>= λ us. give q)
          (in_range rows arities over o p))
      by_parts r here e (some q) h =
          ends_then (AtomsHere rows arities over (some 0) p) (LineSays k p) _ (atoms rows arities over (some 0) p)
          (atoms_here_say rows arities over (some 0) p (omega (arith, here.within)))
          (λ us s g. ends_so r here e q h.0 h.1 us s g)
      by_parts r here e none h = tt

  pub record ParameterSays (p : ℕ) (x : Parameter) (s : ℕ) : Type 0 where
    pub range : (x.id < 256) × (x.depth ≤ 4)
    pub stand : Here p s (parameter_row x ∷ [])

  parameter_says : (p : ℕ) → Ends (ParameterSays p) (parameter_form rows arities over p)
  unfolding parameter_form
  parameter_says p =
      ends_then (LineSays 1 p) (ParameterSays p) _ (line_of rows arities over 1 p) (line_says 1 p) (λ q s h. record {
        range = (h.range.small.0, h.range.second);
        stand = stand_same rows arities over p s (row 1 (packing q) ∷ []) _
            (ap (λ (n : ℕ). row 1 n ∷ [])
            (let z : packing q ≡ q.first + 256 * q.second = omega (arith, h.range.third) in z)) h.stand;
      })

  pub record ParametersSay (n p : ℕ) (xs : List Parameter) (s : ℕ) : Type 0 where
    pub count : length xs ≡ n
    pub range : ParametersFormed xs
    pub stand : Here p s (map parameter_row xs)

  stand_none : (p : ℕ) → p ≤ length rows → Here p p []
  stand_none p h = record { next = omega arith; within = h; stands = refl }

  parameters_say : (n p : ℕ) → p ≤ length rows →
      Ends (ParametersSay n p) (times n (parameter_form rows arities over) p)
  unfolding times
  parameters_say zero p h = record { count = refl; range = tt; stand = stand_none p h }
  parameters_say (suc n) p h =
      ends_then (ParameterSays p) (ParametersSay (suc n) p) _ (parameter_form rows arities over p) (parameter_says p)
      (λ x s g. ends_then (ParametersSay n s) (ParametersSay (suc n) p) _ (times n (parameter_form rows arities over) s)
      (parameters_say n s g.stand.within) (λ xs t k. record {
        count = ap suc k.count;
        range = (g.range, k.range);
        stand = stand_both rows arities over p s t (parameter_row x ∷ []) (map parameter_row xs) g.stand k.stand;
      }))

  pub record FunctionSays (p : ℕ) (g : Lent) (s : ℕ) : Type 0 where
    pub lined : LinedBy arities g
    pub stand : Here p s (lent_function g)

  function_says : (p : ℕ) → Ends (FunctionSays p) (function_form rows arities over p)
  unfolding function_form
  function_says p =
      ends_then (LineSays 0 p) (FunctionSays p) _ (line_of rows arities over 0 p) (line_says 0 p) (λ q s h.
      ends_then (ParametersSay q.first s) (FunctionSays p) _ (times q.first (parameter_form rows arities over) s)
      (parameters_say q.first s h.stand.within) (λ xs t g.
      ends_then (Says rows arities over 64 t) (FunctionSays p) _ (tree_form rows arities over 4096 64 t)
      (tree_says rows arities over 4096 64 t) (λ b u k. record {
        lined = record {
          few = omega (arith, g.count, h.range.first);
          result = h.range.second;
          parameters = g.range;
          tree = k.formed;
        };
        stand = stand_both rows arities over p s u (row 0 (length xs + 256 * q.second) ∷ []) (map parameter_row xs ++
            C.rows b)
            (stand_same rows arities over p s (row 0 (packing q) ∷ []) _ (ap (λ (n : ℕ). row 0 n ∷ [])
            (let z : packing q ≡ length xs + 256 * q.second = omega (arith, h.range.third, g.count) in z))
            h.stand)
            (stand_both rows arities over s t u (map parameter_row xs) (C.rows b) g.stand k.stand);
      })))

  pub record FunctionsSay (n p : ℕ) (gs : List Lent) (s : ℕ) : Type 0 where
    pub lined : AllLinedBy arities gs
    pub many : length gs ≤ n
    pub stand : Here p s (lent_code gs)
    pub ends : s ≡ length rows
    pub whole : over ≡ false

  unless_says : (n p : ℕ) (m : Test (List Lent)) → p ≤ length rows → Ends (FunctionsSay n p) (m p) →
      Ends (FunctionsSay n p) (unless_ended rows arities over m p)
  unfolding lent_code
  unless_says n p m h g = go (ltb p (length rows)) refl over refl
    where
      go : (b : Bool) → ltb p (length rows) ≡ b → (c : Bool) → over ≡ c →
          Ends (FunctionsSay n p) (elim (b || c) [ true ↦ m p | false ↦ done [] p ])
      go true e c f = g
      go false e true f = g
      go false e false f = record {
        lined = tt;
        many = omega arith;
        stand = stand_none p h;
        ends = omega (arith, h, ltb-false p (length rows) e);
        whole = f;
      }

  functions_say : (n p : ℕ) → p ≤ length rows → Ends (FunctionsSay n p) (functions_form rows arities over n p)
  unfolding functions_form lent_code
  functions_say zero p h = unless_says 0 p fault h tt
  functions_say (suc n) p h =
      unless_says (suc n) p
      (function_form rows arities over >>= λ g. functions_form rows arities over n >>= λ gs. give (g ∷ gs)) h
      (with_first n p (functions_say n))
    where
      with_first : (n p : ℕ) → ((q : ℕ) → q ≤ length rows → Ends (FunctionsSay n q)
          (functions_form rows arities over n q)) →
          Ends (FunctionsSay (suc n) p)
          (onward (λ (g : Lent). functions_form rows arities over n >>= λ gs. give (g ∷ gs))
          (function_form rows arities over p))
      with_first n p more =
          ends_then (FunctionSays p) (FunctionsSay (suc n) p) _ (function_form rows arities over p) (function_says p)
          (λ g s h. ends_then (FunctionsSay n s) (FunctionsSay (suc n) p) _ (functions_form rows arities over n s)
          (more s h.stand.within) (λ gs t k. record {
            lined = (h.lined, k.lined);
            many = omega (arith, k.many);
            stand = stand_both rows arities over p s t (lent_function g) (lent_code gs) h.stand k.stand;
            ends = k.ends;
            whole = k.whole;
          }))

  pub code_says : Ends (λ gs s. FunctionsSay 32 0 gs s × (0 < length gs)) (code_form rows arities over 0)
  unfolding code_form lent_code
  code_says =
      ends_then (FunctionSays 0) (λ gs s. FunctionsSay 32 0 gs s × (0 < length gs)) _
      (function_form rows arities over 0)
      (function_says 0) (λ g s h.
      ends_then (FunctionsSay 31 s) (λ gs t. FunctionsSay 32 0 gs t × (0 < length gs)) _
      (functions_form rows arities over 31 s) (functions_say 31 s h.stand.within) (λ gs t k. (
        record {
          lined = (h.lined, k.lined);
          many = omega (arith, k.many);
          stand = stand_both rows arities over 0 s t (lent_function g) (lent_code gs) h.stand k.stand;
          ends = k.ends;
          whole = k.whole;
        },
        omega arith,
      )))

-- ---- the two arrays

all_stated : (n : List (Option ℕ)) (gs : List Lent) → AllLinedBy n gs → Stated gs
all_stated n [] h = tt
all_stated n (g ∷ gs) h = ((h.0.few, h.0.result), all_stated n gs h.1)

-- what is known where `form` accepts
pub record Formable (kinds : List ℕ) (operands : List ℤ) (gs : List Lent) (lines : ℕ) : Type 0 where
  -- the lines are the functions' rows, and there are no others
  pub rows : lent_rows kinds operands ≡ lent_code gs
  pub whole : goes_on kinds operands ≡ false
  pub count : lines ≡ length (lent_code gs)
  pub short : lines ≤ 4096
  pub some : 0 < length gs
  pub many : length gs ≤ 32
  pub lined : AllLined (length gs) gs
  pub formed : FunctionsFormed (map arity gs) gs

pub form_said : (kinds : List ℕ) (operands : List ℤ) (gs : List Lent) (lines : ℕ) →
    form kinds operands ≡ done gs lines → Formable kinds operands gs lines
unfolding form lent_rows
form_said kinds operands gs lines e =
    let rs = lent_rows kinds operands in
    let over = goes_on kinds operands in
    let h = ended (λ l s. FunctionsSay rs (arities_of rs) over 32 0 l s × (0 < length l))
    (code_form rs (arities_of rs) over 0) gs lines (code_says rs (arities_of rs) over) e in
    let w : rs ≡ lent_code gs =
    h.0.stand.stands
    ∙ ap (λ (l : List Row). lent_code gs ++ l) (drop_of_length-le rs {i = lines} (omega (arith, h.0.ends)))
    ∙ append-nil (lent_code gs) in
    let known : arities_of rs ≡ map arity gs =
    ap (λ (l : List Row). arities_of l) w ∙ arities_are gs (all_stated (arities_of rs) gs h.0.lined) in
    let n : length (arities_of rs) ≡ length gs = ap length known ∙ length-map gs arity in
    let few : lines ≤ 4096 =
    omega (arith, h.0.ends, length-take (min 4096 (code_length kinds operands)) (paired kinds operands)) in
    record {
      rows = w;
      whole = h.0.whole;
      count = omega (arith, h.0.ends, ap length w);
      short = few;
      some = h.1;
      many = h.0.many;
      lined = subst (λ (k : ℕ). AllLined k gs) n (all_lined (arities_of rs) gs h.0.lined);
      formed = all_formed gs gs (subst (λ (k : List (Option ℕ)). AllLinedBy k gs) known h.0.lined)
          (omega (arith, few, h.0.ends, ap length w));
    }
