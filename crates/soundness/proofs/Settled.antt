-- A store between deliveries: sound, with totals of a value. What test 11, opening and a stop make of it.
use Rattle.prelude.specs.Kit.{ℕ, ◌≤◌, true, ◌≡◌, refl, ◌∙◌, sym, subst, List, ℤ}
use Rattle.semantics.specs.Value.{Value, first_totals}
use Rattle.semantics.specs.Store.{Store, cell_count, relinked, opened}
use Rattle.semantics.specs.Words.{store_of, slot_words, head_words}
use Rattle.semantics.specs.Sound.{sound_words}
use Rattle.semantics.specs.Demands.{value_of, AtRest, LeftAlone}
use Rattle.discipline.proofs.store.Rest.{Rests, at_rest}
use Rattle.discipline.proofs.store.Words.{whole, store_back, test_says, say_test}
use Rattle.discipline.proofs.store.Change.{unlisted}
use Rattle.discipline.proofs.store.Relink.{relink, relinked_rests}
use Rattle.discipline.proofs.store.Opening.{open_rests}

-- the cells in use are those that the totals of depth d reach, each counted; the totals have the value v
pub record Settled (d : ℕ) (σ : Store) (v : Value) : Type 0 where
  pub rests : Rests d σ
  pub value : value_of σ d σ.totals ≡ v
  pub cells : 1 ≤ cell_count σ

-- test 11 finds nothing else
pub sound_settles : (d : ℕ) (slots : List ℤ) (heads : List ℕ) → sound_words d slots heads ≡ true →
    Settled d (store_of slots heads) (value_of (store_of slots heads) d (store_of slots heads).totals)
sound_settles d slots heads e =
    let h = test_says d slots heads e in
    record { rests = h.rests; value = refl; cells = h.some }

module _ {d : ℕ} {σ : Store} {v : Value} (s : Settled d σ v) where
  -- and passes it
  pub settled_sound : sound_words d (slot_words σ) (head_words σ) ≡ true
  settled_sound = say_test d σ s.rests s.cells

  -- its words decode to it
  pub settled_words : store_of (slot_words σ) (head_words σ) ≡ σ
  settled_words = store_back σ (whole s.rests.holds) s.rests.holds.few

  -- it is at rest, as demand 3 says
  pub settled_rests : AtRest d σ v
  settled_rests = subst (λ w. AtRest d σ w) s.value (at_rest s.rests)

  -- after a stop it is linked anew
  pub relinked_settles : Settled d (relinked σ) v
  relinked_settles =
      let r = relinked_rests s.rests in
      record {
        rests = r.0;
        value = r.1 ∙ s.value;
        cells = subst (λ n. 1 ≤ n) (sym (relink (unlisted s.rests.holds)).cells) s.cells;
      }

  pub relinked_alone : LeftAlone σ (relinked σ)
  relinked_alone = (relink (unlisted s.rests.holds)).left_alone

pub opened_settles : (n d : ℕ) → 1 ≤ n → n ≤ 256 → d ≤ 4 → Settled d (opened n d) (first_totals d)
opened_settles n d some few shallow =
    let o = open_rests n d some few shallow in
    record { rests = o.rests; value = o.value; cells = subst (λ m. 1 ≤ m) (sym o.cells) some }
