-- An empty cell that is acquired and filled by appending is the cell acquired with those words.
use Rattle.prelude.specs.Kit.{ℕ, ◌≤◌, ◌+◌, ◌<◌, ◌-◌, suc, min, arith, dec_lt, true, false, Bool, cond, ◌≡◌, refl, ◌∙◌}
use Rattle.prelude.specs.Kit.{sym, ap, ap₂, ◌≢◌, List, [], ◌∷◌, ◌++◌, append-nil, ℤ, pos, length, get_or, set}
use Rattle.prelude.specs.Kit.{get_or-eq_default, drop, length-append, get_or-append, drop-cons, drop-length}
use Rattle.prelude.specs.Kit.{get_or-append_seam, append_snoc, set-set, lt-ltb, le-ltb, ltb-true}
use Rattle.semantics.specs.Outcome.{Outcome, done, stop}
use Rattle.semantics.specs.Store.{Store, cell, cell_count, with_cell, with_first, padded, filled, wider, has_free}
use Rattle.semantics.specs.Store.{acquired, appended}
use Rattle.semantics.specs.Store as C
use Rattle.laws.specs.Cells.{same_cell, same_store, with_here}
use Rattle.store_words.proofs.Tables.{tabulate_same, set_tabulate}
use Rattle.store.specs.declared.Gained.{Gained}
use Rattle.store.specs.Acquiring.{gained, next_cell, appended_all}

-- ---- one word more in a cell

-- a word at the end changes no other
snoc_other : (ws : List ℤ) (w : ℤ) (i : ℕ) → i ≢ length ws → get_or (ws ++ (w ∷ [])) i (pos 0) ≡ get_or ws i (pos 0)
snoc_other ws w i f = elim (dec_lt i (length ws)) [
  | yes h ↦ get_or-append ws (w ∷ []) (pos 0) i h
  | no h ↦ get_or-eq_default (ws ++ (w ∷ [])) (pos 0)
      (omega (arith, h, f, length-append ws (w ∷ []))) ∙ sym (get_or-eq_default ws (pos 0) (omega (arith, h)))
]

module _ (d : ℕ) (ws : List ℤ) (w : ℤ) where
  wider_room : length ws < 16 → wider (filled d ws) w ≡ filled d (ws ++ (w ∷ []))
  unfolding wider filled padded
  wider_room h = rw (lt-ltb (min (length ws) 16) 16 (omega arith)) (same_cell _ _ refl
      (omega (arith, length-append ws (w ∷ []))) refl refl
      (sym (set_tabulate 16 (λ i. get_or ws i (pos 0)) (λ i. get_or (ws ++ (w ∷ [])) i (pos 0)) (min (length ws) 16) w
      (omega arith) (ap (λ (k : ℕ). get_or (ws ++ (w ∷ [])) k (pos 0)) full ∙ get_or-append_seam ws w [] (pos 0))
      (λ i l f. snoc_other ws w i (λ e. f (e ∙ sym full))))))
    where
      full : min (length ws) 16 ≡ length ws
      full = omega arith

  wider_full : 16 ≤ length ws → wider (filled d ws) w ≡ filled d (ws ++ (w ∷ []))
  unfolding wider filled padded
  wider_full h = rw (le-ltb (min (length ws) 16) 16 (omega arith)) (same_cell _ _ refl
      (omega (arith, length-append ws (w ∷ []))) refl refl
      (tabulate_same 16 _ _ (λ i l. sym (get_or-append ws (w ∷ []) (pos 0) i (omega arith)))))

  wider_filled : wider (filled d ws) w ≡ filled d (ws ++ (w ∷ []))
  wider_filled = elim (dec_lt (length ws) 16) [
    | yes h ↦ wider_room h
    | no h ↦ wider_full (omega (arith, h))
  ]

-- ---- all words of a cell that was acquired

module _ (d : ℕ) (σ : Store) (free : has_free σ ≡ true) where
  acquired_free : (ws : List ℤ) → acquired d ws σ
      ≡ with_first (with_cell σ σ.first (filled d ws)) (cell σ σ.first).next
  unfolding acquired
  acquired_free ws = rw free

  in_store : σ.first < cell_count σ
  unfolding has_free
  in_store = ltb-true σ.first (cell_count σ) free

  appended_acquired : (ws : List ℤ) (w : ℤ) → appended σ.first w (acquired d ws σ) ≡ acquired d (ws ++ (w ∷ [])) σ
  unfolding appended with_cell with_first cell
  appended_acquired ws w = rw (acquired_free ws, acquired_free (ws ++ (w ∷ [])))
      (same_store _ _ refl refl (set-set σ.cells σ.first _ _
      ∙ ap (λ (x : C.Cell). set σ.cells σ.first x)
      (ap (λ (x : C.Cell). wider x w) (with_here σ σ.first (filled d ws) in_store) ∙ wider_filled d ws w)))

  appended_all_acquired : (ws vs : List ℤ) → appended_all σ.first ws (acquired d vs σ) ≡ acquired d (vs ++ ws) σ
  unfolding appended_all
  appended_all_acquired [] vs = ap (λ (l : List ℤ). acquired d l σ) (sym (append-nil vs))
  appended_all_acquired (w ∷ ws) vs = ap (appended_all σ.first ws) (appended_acquired vs w)
      ∙ appended_all_acquired ws (vs ++ (w ∷ [])) ∙ ap (λ (l : List ℤ). acquired d l σ) (append_snoc vs w ws)

-- what an acquire that gave a cell says
pub cell_given : (free : ℕ) (σ : Store) (g : Gained) → done g tt ≡ next_cell free σ →
    (has_free σ ≡ true) × (g ≡ gained σ.first (free - 1))
unfolding next_cell
cell_given free σ g e = go (has_free σ) refl e
  where
    go : (t : Bool) → has_free σ ≡ t →
        ◌≡◌ {A = Outcome (Unit {0}) Gained} (done g tt) (cond t (done (gained σ.first (free - 1)) tt) (stop 25 tt)) →
        (has_free σ ≡ true) × (g ≡ gained σ.first (free - 1))
    go true f e = (f, cc)
    go false f e = let z : ◌≡◌ {A = ℕ} 0 1 = cc in absurd (omega arith)

-- where none is free, an acquire changes nothing
pub none_given : (free d : ℕ) (σ : Store) (ws : List ℤ) → stop 25 tt ≡ next_cell free σ →
    acquired d [] σ ≡ acquired d ws σ
unfolding next_cell acquired
none_given free d σ ws e = go (has_free σ) refl e
  where
    go : (t : Bool) → has_free σ ≡ t →
        ◌≡◌ {A = Outcome (Unit {0}) Gained} (stop 25 tt)
        (cond t (done (gained σ.first (free - 1)) tt) (stop 25 tt)) →
        acquired d [] σ ≡ acquired d ws σ
    go true f g = let z : ◌≡◌ {A = ℕ} 0 1 = cc in absurd (omega arith)
    go false f g = rw f

pub filled_by_appending : (free d : ℕ) (σ : Store) (g : Gained) (ws : List ℤ) → done g tt ≡ next_cell free σ →
    appended_all g.cell ws (acquired d [] σ) ≡ acquired d ws σ
filled_by_appending free d σ g ws e =
    rw (cell_given free σ g e).1 (appended_all_acquired d σ (cell_given free σ g e).0 ws [])

-- ---- the loop over the words

pub appended_next : (c : ℕ) (words : List ℤ) (i : ℕ) (w : ℤ) (σ : Store) → i < length words →
    w ≡ get_or words i (pos 0) →
    appended_all c (drop i words) σ ≡ appended_all c (drop (i + 1) words) (appended c w σ)
unfolding appended_all
appended_next c words i w σ h e = ap (λ (l : List ℤ). appended_all c l σ) (drop-cons words i (pos 0) h)
    ∙ ap₂ (λ (v : ℤ) (k : ℕ). appended_all c (drop k words) (appended c v σ)) (sym e)
    (let q : suc i ≡ i + 1 = omega arith in q)

pub appended_end : (c : ℕ) (words : List ℤ) (i : ℕ) (σ : Store) → i ≡ length words →
    appended_all c (drop i words) σ ≡ σ
unfolding appended_all
appended_end c words i σ h = ap (λ (k : ℕ). appended_all c (drop k words) σ) h
    ∙ ap (λ (l : List ℤ). appended_all c l σ) (drop-length words)
