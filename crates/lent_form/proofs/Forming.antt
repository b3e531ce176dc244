-- The loop over the functions.
use Rattle.prelude.specs.Kit.{ℕ, ◌≤◌, ◌+◌, ◌<◌, ◌-◌, suc, zero, arith, true, false, Bool, false≢true, ◌||◌, ◌≡◌, refl}
use Rattle.prelude.specs.Kit.{◌∙◌, sym, ap, Option, List, [], ◌∷◌, ◌++◌, append_assoc, append-nil, eqb, ltb, ℤ}
use Rattle.prelude.specs.Kit.{length, get_or, set, length-set, length-append, get_or-set_other, get_or-set_same}
use Rattle.prelude.specs.Kit.{eqb-true, eqb-false}
use Rattle.semantics.specs.Outcome.{Outcome, done, stop, onward, give}
use Rattle.semantics.specs.Code.{Row}
use Rattle.semantics_lent.specs.Form.{paired, arities_of, function_form, Lent, unless_ended, functions_form, code_form}
use Rattle.lent_form.specs.Told.{faulty, forgot, function_passed}
use Rattle.lent_form.specs.Starts.{lent_size, start_of, Answers}
use Rattle.std.specs.Prelude.{Ok, Err}
use Rattle.lent_form.specs.declared.Fault.{Fault}
use Rattle.lent_form.proofs.Starts.{function_grown}

-- ---- a list of functions with one more

abbrev total : List Lent → ℕ
total [] = 0
total (g ∷ gs) = lent_size g + total gs

total_more : (hs : List Lent) (g : Lent) → total (hs ++ (g ∷ [])) ≡ total hs + lent_size g
total_more [] g = omega arith
total_more (h ∷ hs) g = omega (arith, total_more hs g)

start_before : (hs : List Lent) (g : Lent) (p i : ℕ) → i < length hs → start_of (hs ++ (g ∷ [])) p i ≡ start_of hs p i
start_before [] g p i l = absurd (omega arith)
start_before (h ∷ hs) g p zero l = refl
start_before (h ∷ hs) g p (suc i) l = start_before hs g (p + lent_size h) i (omega arith)

start_last : (hs : List Lent) (g : Lent) (p i : ℕ) → i ≡ length hs → start_of (hs ++ (g ∷ [])) p i ≡ p + total hs
start_last [] g p zero e = omega arith
start_last [] g p (suc i) e = absurd (omega arith)
start_last (h ∷ hs) g p zero e = absurd (omega arith)
start_last (h ∷ hs) g p (suc i) e =
    start_last hs g (p + lent_size h) i (omega arith) ∙ omega arith

-- ---- functions before others

abbrev prefixed : List Lent → Outcome ℕ (List Lent) → Outcome ℕ (List Lent)
prefixed hs (done gs q) = done (hs ++ gs) q
prefixed hs (stop n q) = stop n q

prefixed_more : (hs : List Lent) (g : Lent) (o : Outcome ℕ (List Lent)) →
    prefixed hs (onward (λ (gs : List Lent). give (g ∷ gs)) o) ≡ prefixed (hs ++ (g ∷ [])) o
unfolding onward
prefixed_more hs g (done gs q) = ap (λ (l : List Lent). done l q) (sym (append_assoc hs (g ∷ []) gs))
prefixed_more hs g (stop n q) = refl

module _ (rows : List Row) (arities : List (Option ℕ)) (over : Bool) where
  -- a function and at most n - 1 more
  abbrev pub more : ℕ → ℕ → Outcome ℕ (List Lent)
  more zero p = stop 29 p
  more (suc n) p =
      onward (λ (g : Lent) (s : ℕ). onward (λ (gs : List Lent). give (g ∷ gs)) (functions_form rows arities over n s))
      (function_form rows arities over p)

  unless_more : (m : ℕ → Outcome ℕ (List Lent)) (p : ℕ) → (ltb p (length rows) || over) ≡ true →
      unless_ended rows arities over m p ≡ m p
  unless_more m p e = go (ltb p (length rows) || over) e
    where
      go : (b : Bool) → b ≡ true → elim b [ true ↦ m p | false ↦ done [] p ] ≡ m p
      go true d = refl
      go false d = absurd (false≢true d)

  unless_no_more : (m : ℕ → Outcome ℕ (List Lent)) (p : ℕ) → (ltb p (length rows) || over) ≡ false →
      unless_ended rows arities over m p ≡ done [] p
  unless_no_more m p e = go (ltb p (length rows) || over) e
    where
      go : (b : Bool) → b ≡ false →
          ◌≡◌ {A = Outcome ℕ (List Lent)} (elim b [ true ↦ m p | false ↦ done [] p ]) (done [] p)
      go true d = absurd (false≢true (sym d))
      go false d = refl

  goes_more : (n p : ℕ) → (ltb p (length rows) || over) ≡ true → functions_form rows arities over n p ≡ more n p
  unfolding functions_form
  goes_more zero p e = unless_more (λ s. stop 29 s) p e
  goes_more (suc n) p e = unless_more (more (suc n)) p e

  goes_no_more : (n p : ℕ) → (ltb p (length rows) || over) ≡ false → functions_form rows arities over n p ≡ done [] p
  unfolding functions_form
  goes_no_more zero p e = unless_no_more (λ s. stop 29 s) p e
  goes_no_more (suc n) p e = unless_no_more (more (suc n)) p e

  -- f functions have been gone over, and the next begins at line p
  pub record Forming (starts : List ℕ) (f p : ℕ) : Type 0 where
    pub before : List Lent
    pub many : length before ≡ f
    pub most : f ≤ 32
    pub at : p ≡ total before
    pub code : code_form rows arities over 0 ≡ prefixed before (more (32 - f) p)
    pub places : (i : ℕ) → i < f → get_or starts i 0 ≡ start_of before 0 i
    pub long : length starts ≡ 32

  first_of : (o : Outcome ℕ (List Lent)) → o ≡ prefixed [] o
  first_of (done gs q) = refl
  first_of (stop n q) = refl

  pub forming_starts : (starts : List ℕ) → length starts ≡ 32 → Forming starts 0 0
  unfolding code_form
  forming_starts starts e = record {
    before = [];
    many = refl;
    most = omega arith;
    at = refl;
    code = first_of (more 32 0);
    places = λ i h. absurd (omega arith);
    long = e;
  }

  module _ (starts : List ℕ) (f p : ℕ) (c : Forming starts f p) where
    pub too_many : f ≡ 32 → Answers (code_form rows arities over 0) (faulty p) starts
    too_many e =
        let none : 32 - f ≡ 0 = omega arith in
        let stops : code_form rows arities over 0 ≡ stop 29 p = c.code ∙ rw none in
        record { is = rw stops; started = rw stops tt }

    module _ (h : f < 32) where
      fewer : 32 - f ≡ suc (32 - (f + 1))
      fewer = omega arith

      pub stops_at : (r : Fault) → function_form rows arities over p ≡ stop 29 r.line →
          Answers (code_form rows arities over 0) (Err r) (set starts f p)
      unfolding onward
      stops_at r e =
          let stops : code_form rows arities over 0 ≡ stop 29 r.line = c.code ∙ rw (fewer, e) in
          record { is = rw stops; started = rw stops tt }

      module _ (g : Lent) (q : ℕ) (e : function_form rows arities over p ≡ done g q) where
        grown : q ≡ p + lent_size g
        grown = rw e at (function_grown rows arities over p)

        places_more : (i : ℕ) → i < f + 1 → get_or (set starts f p) i 0 ≡ start_of (c.before ++ (g ∷ [])) 0 i
        places_more i l = go (eqb i f) refl
          where
            go : (b : Bool) → eqb i f ≡ b → get_or (set starts f p) i 0 ≡ start_of (c.before ++ (g ∷ [])) 0 i
            go true d =
                let k : i ≡ f = eqb-true i f d in
                ap (λ (j : ℕ). get_or (set starts f p) j 0) k
                ∙ get_or-set_same starts f p 0 (omega (arith, c.long))
                ∙ sym (start_last c.before g 0 i (omega (arith, c.many)) ∙ omega (arith, c.at))
            go false d =
                let k : i ≡ f → ⊥ = eqb-false i f d in
                get_or-set_other starts f i p 0 k
                ∙ c.places i (omega arith)
                ∙ sym (start_before c.before g 0 i (omega (arith, c.many)))

        with_more : code_form rows arities over 0
            ≡ prefixed (c.before ++ (g ∷ [])) (functions_form rows arities over (32 - (f + 1)) q)
        unfolding onward
        with_more =
            c.code ∙ rw (fewer, e) (prefixed_more c.before g (functions_form rows arities over (32 - (f + 1)) q))

        pub forms_more : (ltb q (length rows) || over) ≡ true → Forming (set starts f p) (f + 1) q
        forms_more d = record {
          before = c.before ++ (g ∷ []);
          many = simp length-append (omega (arith, c.many));
          most = omega arith;
          at = omega (arith, grown, c.at, total_more c.before g);
          code = with_more ∙ rw (goes_more (32 - (f + 1)) q d);
          places = places_more;
          long = simp length-set c.long;
        }

        pub ends_here : (ltb q (length rows) || over) ≡ false →
            Answers (code_form rows arities over 0) (Ok (record { lines = q; functions = f + 1 })) (set starts f p)
        ends_here d =
            let ended : code_form rows arities over 0 ≡ done ((c.before ++ (g ∷ [])) ++ []) q =
            with_more ∙ rw (goes_no_more (32 - (f + 1)) q d) in
            let all : length ((c.before ++ (g ∷ [])) ++ []) ≡ f + 1 = simp length-append (omega (arith, c.many)) in
            record {
              is = rw ended (ap (λ (n : ℕ). done n q) (sym all));
              started = rw ended (record {
                long = simp length-set c.long;
                at = λ i l. places_more i (omega (arith, all))
                    ∙ ap (λ (gs : List Lent). start_of gs 0 i) (sym (append-nil (c.before ++ (g ∷ []))));
              });
            }

-- ---- the answer of a function

inverted : {A : Type 0} (o : Outcome ℕ A) (q : ℕ) → done tt q ≡ forgot o → (a : A) × (o ≡ done a q)
inverted (done a s) q e = let f : q ≡ s = cc in (a, ap (λ (t : ℕ). done a t) (sym f))
inverted (stop n s) q e = absurd (let z : ◌≡◌ {A = ℕ} 0 1 = cc in let f : ⊥ = omega arith in f)

stopped : {A : Type 0} (o : Outcome ℕ A) (q : ℕ) → stop 29 q ≡ forgot o → o ≡ stop 29 q
stopped (done a s) q e = absurd (let z : ◌≡◌ {A = ℕ} 0 1 = cc in let f : ⊥ = omega arith in f)
stopped (stop n s) q e = let f : 29 ≡ n = cc in let g : q ≡ s = cc in rw (f, g)

module _ (ks : List ℕ) (os : List ℤ) (over : Bool) (p : ℕ) where
  pub function_found : (q : ℕ) → done tt q ≡ function_passed ks os over p →
      (g : Lent) × (function_form (paired ks os) (arities_of (paired ks os)) over p ≡ done g q)
  unfolding function_passed
  function_found q read = inverted (function_form (paired ks os) (arities_of (paired ks os)) over p) q read

  pub function_faulty : (e : Fault) → stop 29 e.line ≡ function_passed ks os over p →
      function_form (paired ks os) (arities_of (paired ks os)) over p ≡ stop 29 e.line
  unfolding function_passed
  function_faulty e read = stopped (function_form (paired ks os) (arities_of (paired ks os)) over p) e.line read
