-- The lines that are looked at, and the numbers of parameters of their functions.
use Rattle.prelude.specs.Kit.{ℕ, ◌≤◌, ◌+◌, ◌<◌, ◌-◌, suc, arith, add-one, true, false, Bool, cond}
use Rattle.prelude.specs.Kit.{◌≡◌, refl, ◌∙◌, sym, ap, none, Option, List, [], ◌∷◌, ◌++◌, append_assoc, eqb}
use Rattle.prelude.specs.Kit.{ltb, ℤ, pos, length, get_or, set, length-set, replicate, get_or-replicate, take, drop}
use Rattle.prelude.specs.Kit.{length-append, length-take, length-drop, get_or-append, get_or-set_other, get_or-set_same}
use Rattle.prelude.specs.Kit.{drop-cons, get_or-append-add, take-suc, take-length, ne_eqb, lt-ltb, eq-eqb, le-ltb}
use Rattle.prelude.specs.Kit.{eqb-true, ltb-true, ltb-false, eqb-false, and-true, and-false, ◌&&◌, zero}
use Rattle.std.proofs.lemmas.List.{take-append-drop, drop-take}
use Rattle.semantics.specs.Basics.{with_if}
use Rattle.semantics.specs.Code.{Row, row}
use Rattle.semantics_lent.specs.Form.{used, and_before, paired, parts_of, arity_of, arities_of}
use Rattle.lent_form.specs.Told.{wants_of, arity_in, call_wants, Known}
use Rattle.lent_form.specs.declared.Wants.{Wants}
use Rattle.lent_form.specs.declared.Wants.TheVariants.{Wrong}
use Rattle.lent_form.proofs.Rows.{paired_length, paired_at}

-- ---- closing zeros

module _ {A : Type 0} (zeroed : A → Bool) where
  used_last : (l : List A) (a : A) → used zeroed (l ++ (a ∷ [])) ≡ cond (zeroed a) (used zeroed l) (suc (length l))
  unfolding used
  used_last [] a = go (zeroed a)
    where
      go : (b : Bool) → and_before b 0 ≡ cond b 0 1
      go true = refl
      go false = refl
  used_last (b ∷ l) a = rw (used_last l a) (go (zeroed a))
    where
      go : (c : Bool) →
          and_before (zeroed b) (cond c (used zeroed l) (suc (length l)))
          ≡ cond c (and_before (zeroed b) (used zeroed l)) (suc (suc (length l)))
      go true = refl
      go false = refl

  pub zeros_none : true ≡ eqb (used zeroed []) 0
  unfolding used
  zeros_none = refl

  -- one word more
  pub zeros_more : (l : List A) (i : ℕ) → i < length l → (a : A) → a ≡ get_or l i a → {none zero : Bool} →
      none ≡ eqb (used zeroed (take i l)) 0 → zero ≡ zeroed a →
      (none && zero) ≡ eqb (used zeroed (take (i + 1) l)) 0
  zeros_more l i h a is p q = rw (p, q, longer, used_last (take i l) a) (go (zeroed a))
    where
      longer : take (i + 1) l ≡ take i l ++ (a ∷ [])
      longer = let e : i + 1 ≡ suc i = omega arith in
          ap (λ (k : ℕ). take k l) e ∙ take-suc l i a h ∙ ap (λ (b : A). take i l ++ (b ∷ [])) (sym is)

      go : (b : Bool) →
          (eqb (used zeroed (take i l)) 0 && b) ≡ eqb (cond b (used zeroed (take i l)) (suc (length (take i l)))) 0
      go true = and-true (eqb (used zeroed (take i l)) 0)
      go false = and-false (eqb (used zeroed (take i l)) 0)
          ∙ sym (ne_eqb (suc (length (take i l))) 0 (λ e. omega arith))

  -- closing zeros are passed over
  zeros_behind : (l r : List A) → used zeroed r ≡ 0 → used zeroed (l ++ r) ≡ used zeroed l
  unfolding used
  zeros_behind [] r e = e
  zeros_behind (b ∷ l) r e = ap (and_before (zeroed b)) (zeros_behind l r e)

  pub used_all : (l : List A) → used zeroed l ≡ used zeroed (take (length l) l)
  used_all l = ap (used zeroed) (sym (take-length l))

  -- a block of m words behind n others, all of which were found to be zero
  module _ (l : List A) (n m i : ℕ) (whole : i ≡ length (take m (drop n l))) {none : Bool}
      (is : none ≡ eqb (used zeroed (take i (take m (drop n l)))) 0) (so : none ≡ true) where
    none_there : used zeroed (take m (drop n l)) ≡ 0
    none_there =
        let all : eqb (used zeroed (take i (take m (drop n l)))) 0 ≡ true = sym is ∙ so in
        used_all (take m (drop n l)) ∙ ap (λ (k : ℕ). used zeroed (take k (take m (drop n l)))) (sym whole)
        ∙ eqb-true _ 0 all

    pub block_passed : used zeroed (take (n + m) l) ≡ used zeroed (take n l)
    block_passed = ap (used zeroed) (sym (take-append-drop n (take (n + m) l)) ∙ halves)
        ∙ zeros_behind (take n l) (take m (drop n l)) none_there
      where
        front : (l : List A) (i k : ℕ) → i ≤ k → take i (take k l) ≡ take i l
        front l zero k h = refl
        front [] (suc i) zero h = refl
        front [] (suc i) (suc k) h = refl
        front (a ∷ l) (suc i) zero h = absurd (omega arith)
        front (a ∷ l) (suc i) (suc k) h = ap (λ (r : List A). a ∷ r) (front l i k (omega arith))

        halves : take n (take (n + m) l) ++ drop n (take (n + m) l) ≡ take n l ++ take m (drop n l)
        halves = rw (front l n (n + m) (omega arith), drop-take n m l) refl

  pub used_none : (l : List A) (n : ℕ) → n ≡ 0 → used zeroed (take n l) ≡ 0
  unfolding used
  used_none l n e = rw e

  -- the first n places, the last of which has a
  module _ (l : List A) (n : ℕ) (h : 0 < n) (m : n ≤ length l) (a : A) (last : a ≡ get_or l (n - 1) a) where
    one_less : take n l ≡ take (n - 1) l ++ (a ∷ [])
    one_less = let e : n ≡ suc (n - 1) = omega arith in
        ap (λ (k : ℕ). take k l) e ∙ take-suc l (n - 1) a (omega arith)
        ∙ ap (λ (b : A). take (n - 1) l ++ (b ∷ [])) (sym last)

    pub used_zero : zeroed a ≡ true → used zeroed (take n l) ≡ used zeroed (take (n - 1) l)
    used_zero e = ap (used zeroed) one_less ∙ used_last (take (n - 1) l) a ∙ rw e

    pub used_here : zeroed a ≡ false → used zeroed (take n l) ≡ n
    used_here e =
        ap (used zeroed) one_less ∙ used_last (take (n - 1) l) a
        ∙ rw e (simp length-take (omega arith))

-- ---- what calls of the functions want

nothing : length (arities_of []) ≡ 0
unfolding arities_of
nothing = refl

-- the rows before line p have been looked through: the table has what calls of their functions want
pub record Counting (rows : List Row) (table : List Wants) (f p : ℕ) : Type 0 where
  pub before : List (Option ℕ)
  pub whole : arities_of rows ≡ before ++ arities_of (drop p rows)
  pub many : length before ≡ f
  pub most : f ≤ 32
  pub known : (i : ℕ) → i < f → get_or table i Wrong ≡ wants_of (get_or before i none)
  pub blank : (i : ℕ) → f ≤ i → i < 32 → get_or table i Wrong ≡ Wrong
  pub long : length table ≡ 32

pub counting_starts : (rows : List Row) → Counting rows (replicate 32 Wrong) 0 0
counting_starts rows = record {
  before = [];
  whole = refl;
  many = refl;
  most = omega arith;
  known = λ i h. absurd (omega arith);
  blank = λ i h g. get_or-replicate 32 i Wrong Wrong g;
  long = refl;
}

module _ (ks : List ℕ) (os : List ℤ) (even : length ks ≡ length os) (table : List Wants) (f p : ℕ)
    (c : Counting (paired ks os) table f p) where
  arities_here : p < length ks →
      arities_of (drop p (paired ks os))
      ≡ with_if (eqb (get_or ks p 0) 0) (arity_of (parts_of 0 (get_or os p (pos 0))))
      (arities_of (drop (p + 1) (paired ks os)))
  unfolding arities_of
  arities_here h =
      ap arities_of (drop-cons (paired ks os) p (row 0 0) (omega (arith, paired_length ks os even)))
      ∙ rw (paired_at ks os p even, add-one p)

  pub count_other : p < length ks → (get_or ks p 0 ≡ 0 → ⊥) → Counting (paired ks os) table f (p + 1)
  count_other h e = record {
    before = c.before;
    whole = c.whole ∙ ap (λ (l : List (Option ℕ)). c.before ++ l) (arities_here h ∙ rw (ne_eqb (get_or ks p 0) 0 e));
    many = c.many;
    most = c.most;
    known = c.known;
    blank = c.blank;
    long = c.long;
  }

  pub count_function : p < length ks → get_or ks p 0 ≡ 0 → (f ≡ 32 → ⊥) → (b : Wants) →
      b ≡ wants_of (arity_of (parts_of 0 (get_or os p (pos 0)))) →
      Counting (paired ks os) (set table f b) (f + 1) (p + 1)
  count_function h e g b w = record {
    before = c.before ++ (o ∷ []);
    whole =
        c.whole ∙ ap (λ (l : List (Option ℕ)). c.before ++ l) (arities_here h ∙ rw (eq-eqb (get_or ks p 0) 0 e))
        ∙ sym (append_assoc c.before (o ∷ []) (arities_of (drop (p + 1) (paired ks os))));
    many = simp length-append (omega (arith, c.many));
    most = omega (arith, c.most);
    known = λ i l. known_at i l (eqb i f) refl;
    blank = λ i l k. get_or-set_other table f i b Wrong (λ d. omega arith) ∙ c.blank i (omega arith) k;
    long = simp length-set c.long;
  }
    where
      o : Option ℕ
      o = arity_of (parts_of 0 (get_or os p (pos 0)))

      known_at : (i : ℕ) → i < f + 1 → (t : Bool) → eqb i f ≡ t →
          get_or (set table f b) i Wrong ≡ wants_of (get_or (c.before ++ (o ∷ [])) i none)
      known_at i l true d =
          let e : i ≡ f = eqb-true i f d in
          let k : i ≡ length c.before + 0 = omega (arith, c.many) in
          ap (λ (j : ℕ). get_or (set table f b) j Wrong) e
          ∙ get_or-set_same table f b Wrong (omega (arith, c.long, c.most))
          ∙ w
          ∙ ap wants_of (sym (ap (λ (j : ℕ). get_or (c.before ++ (o ∷ [])) j none) k
          ∙ get_or-append-add c.before (o ∷ []) 0 none))
      known_at i l false d =
          let n : i ≡ f → ⊥ = eqb-false i f d in
          get_or-set_other table f i b Wrong n
          ∙ c.known i (omega arith)
          ∙ ap wants_of (sym (get_or-append c.before (o ∷ []) none i (omega (arith, c.many))))

  -- the table is right for a function that has been found
  found_known : (i : ℕ) → i < f → i < 32 → arity_in table i ≡ call_wants (arities_of (paired ks os)) i
  unfolding arity_in
  found_known i h g =
      rw (
        c.whole,
        lt-ltb i 32 g,
        lt-ltb i (length (c.before ++ arities_of (drop p (paired ks os))))
            (simp length-append (omega (arith, c.many))),
      )
      (c.known i h
      ∙ ap wants_of (sym (get_or-append c.before (arities_of (drop p (paired ks os))) none i
      (omega (arith, c.many)))))

  pub all_counted : f ≡ 32 → Known table (arities_of (paired ks os))
  all_counted e = record { at = λ i h. found_known i (omega arith) h }

  none_left : length ks ≤ p → length (arities_of (drop p (paired ks os))) ≡ 0
  none_left h = go (drop p (paired ks os)) (length-drop p (paired ks os))
    where
      go : (rs : List Row) → length rs ≡ length (paired ks os) - p → length (arities_of rs) ≡ 0
      go [] e = nothing
      go (r ∷ rs) e = absurd (omega (arith, e, paired_length ks os even))

  pub no_more : length ks ≤ p → Known table (arities_of (paired ks os))
  unfolding arity_in
  no_more h = record { at = λ i g. go i g (ltb i f) refl }
    where
      go : (i : ℕ) → i < 32 → (b : Bool) → ltb i f ≡ b → arity_in table i ≡ call_wants (arities_of (paired ks os)) i
      go i g true e = found_known i (ltb-true i f e) g
      go i g false e =
          let l : f ≤ i = ltb-false i f e in
          rw (
            c.whole,
            lt-ltb i 32 g,
            c.blank i l g,
            le-ltb i (length (c.before ++ arities_of (drop p (paired ks os))))
                (simp length-append (omega (arith, c.many, none_left h))),
          )
