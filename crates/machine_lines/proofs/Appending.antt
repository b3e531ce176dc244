-- The loop that appends the words of the atoms that follow a line to a cell.
use Rattle.prelude.specs.Kit.{ℕ, ◌≤◌, ◌+◌, ◌<◌, arith, true, false, ◌≡◌, ◌∙◌, sym, ap, List, [], ℤ, length, get_or}
use Rattle.semantics.specs.Store.{Store, appended}
use Rattle.store.specs.Acquiring.{appended_all}
use Rattle.machine_code.specs.Reading.{is_atom, atom_at}
use Rattle.kinds.specs.declared.Atom.{Atom}
use Rattle.machine_frames.specs.Frames.{word_of, words_at}
use Rattle.machine_frames.proofs.Gathering.{words_left, words_end, words_full, words_next}
use Rattle.machine_lines.specs.Lines.{Appended}

pub record Appending (kinds : List ℕ) (operands : List ℤ) (calls at : ℕ) (env : List ℤ) (c : ℕ) (σ₀ σ : Store) (i : ℕ)
    : Type 0 where
  pub same : appended_all c (words_at 16 kinds operands calls env at) σ₀
      ≡ appended_all c (words_left kinds operands calls env at i) σ
  pub count : length (words_at 16 kinds operands calls env at)
      ≡ i + length (words_left kinds operands calls env at i)
  pub few : i ≤ 16

module _ {kinds : List ℕ} {operands : List ℤ} {calls at : ℕ} {env : List ℤ} {c : ℕ} {σ₀ σ : Store} {i : ℕ}
    (inv : Appending kinds operands calls at env c σ₀ σ i) where
  appended_left : words_left kinds operands calls env at i ≡ [] →
      Appended (words_at 16 kinds operands calls env at) c i σ₀ σ
  unfolding appended_all
  appended_left e = record {
    store = sym (inv.same ∙ ap (λ (l : List ℤ). appended_all c l σ) e);
    count = omega (arith, inv.count, ap length e);
    few = inv.few;
  }

  pub appended_end : is_atom (get_or kinds (at + i) 0) ≡ false →
      Appended (words_at 16 kinds operands calls env at) c i σ₀ σ
  appended_end e = appended_left (words_end kinds operands calls env at i e)

  pub appended_full : 16 ≤ i → Appended (words_at 16 kinds operands calls env at) c 16 σ₀ σ
  appended_full h =
      let all = appended_left (words_full kinds operands calls env at i h) in
      record { store = all.store; count = omega (arith, all.count, inv.few, h); few = omega arith }

  pub appending_more : i < 16 → is_atom (get_or kinds (at + i) 0) ≡ true → (a : Atom) (v : ℤ) →
      a ≡ atom_at kinds operands (at + i) → v ≡ word_of calls env a → (σ' : Store) → σ' ≡ appended c v σ →
      Appending kinds operands calls at env c σ₀ σ' (i + 1)
  unfolding appended_all
  appending_more h e a v ae ve σ' s = let next = words_next kinds operands calls env at i h e a v ae ve in record {
    same = inv.same ∙ ap (λ (l : List ℤ). appended_all c l σ) next
        ∙ ap (appended_all c (words_left kinds operands calls env at (i + 1))) (sym s);
    count = omega (arith, inv.count, ap length next);
    few = omega arith;
  }
