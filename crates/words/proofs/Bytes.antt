-- Numbers of more bytes from numbers of fewer.
use Rattle.prelude.specs.Kit.{ℕ, ◌≤◌, ◌+◌, ◌<◌, ◌-◌, suc, zero, ◌*◌, ◌^◌, arith, add-zero, add-suc, ◌≡◌, refl, sym}
use Rattle.prelude.specs.Kit.{List, [], ◌∷◌, length, get_or, get_or-eq_default, w64}
use Rattle.std.specs.Int.{w16, from_le_bytes}
use Rattle.semantics.specs.Number.{bytes_at}

-- past the end all bytes are 0
pub none_past : (n : ℕ) (l : List ℕ) (i : ℕ) → length l ≤ i → bytes_at n l i ≡ 0
unfolding bytes_at
none_past zero l i h = refl
none_past (suc n) l i h = omega (arith, get_or-eq_default l 0 {n = i} h, none_past n l (i + 1) (omega arith))

-- so many bytes are below a power of 256
some : (n : ℕ) → 0 < 256 ^ n
some zero = omega arith
some (suc n) = omega (arith, some n)

grows : (n d : ℕ) → 256 ^ n ≤ 256 ^ (n + d)
grows n zero = rw (add-zero n) (omega arith)
grows n (suc d) = rw (add-suc n d) (omega (arith, grows n d))

pub room : (n : ℕ) → n ≤ 7 → 256 ^ n ≤ 256 ^ 7
room n h =
    let e : n + (7 - n) ≡ 7 = omega arith in
    rw e at (grows n (7 - n))

module _ (l : List ℕ) (i : ℕ) where
  -- so many bytes from i on
  abbrev pub From : ℕ → ℕ → Type 0
  From n r = (r ≡ bytes_at n l i) × (r < 256 ^ n)

  pub none : (n : ℕ) → n ≡ 0 → From n 0
  unfolding bytes_at
  none n e = rw e (refl, omega arith)

  pub none_left : (n : ℕ) → length l ≤ i → From n 0
  none_left n h = (sym (none_past n l i h), some n)

  pub one_more : (n b r : ℕ) → (n ≡ 0 → ⊥) → b ≡ get_or l i 0 → b < 256 → r ≡ bytes_at (n - 1) l (i + 1) →
      r < 256 ^ (n - 1) → From n (b + 256 * r)
  unfolding bytes_at
  one_more zero b r f e h g m = absurd (f refl)
  one_more (suc n) b r f e h g m =
      let o : suc n - 1 ≡ n = omega arith in
      let p : r ≡ bytes_at n l (i + 1) = rw o at g in
      let q : r < 256 ^ n = rw o at m in
      (omega arith, omega arith)

module _ (l : List ℕ) (i : ℕ) where
  pub two : from_le_bytes w16 (get_or l i 0 ∷ get_or l (i + 1) 0 ∷ []) ≡ bytes_at 2 l i
  unfolding bytes_at
  two = omega arith

  pub eight : from_le_bytes w64 (get_or l i 0 ∷ get_or l (i + 1) 0 ∷ get_or l (i + 2) 0 ∷ get_or l (i + 3) 0
      ∷ get_or l (i + 4) 0 ∷ get_or l (i + 5) 0 ∷ get_or l (i + 6) 0 ∷ get_or l (i + 7) 0 ∷ []) ≡ bytes_at 8 l i
  unfolding bytes_at
  eight =
      let e : i + 1 + 1 ≡ i + 2 = omega arith in
      let f : i + 2 + 1 ≡ i + 3 = omega arith in
      let g : i + 3 + 1 ≡ i + 4 = omega arith in
      let h : i + 4 + 1 ≡ i + 5 = omega arith in
      let j : i + 5 + 1 ≡ i + 6 = omega arith in
      let k : i + 6 + 1 ≡ i + 7 = omega arith in
      simp (e, f, g, h, j, k) (omega arith)
