-- The swap: sites that are saved and restored at any times go on as one never swapped, while none meets 25.
use Rattle.prelude.specs.Kit.{ℕ, true, ◌≡◌, refl, ◌∙◌, sym, subst}
use Rattle.prelude.specs.Kit.{List}
use Rattle.semantics.specs.Syntax.{main_depth}
use Rattle.semantics.specs.Sound.{sound_words}
use Rattle.semantics.specs.Calls.{StoreReply}
use Rattle.semantics.specs.Swap.{defined_saving}
use Rattle.semantics.specs.Swap.{Running, value_in, Swap}
use Rattle.laws.specs.Files.{same_script}
use Rattle.soundness.proofs.saved.Swaps.{Started, begun, site_stands, same_story}

-- ---- the theorem

-- what a running site has come to
running_stands : (file : List ℕ) (r : StoreReply) → Running defined_saving file r → Started file r
running_stands file r site =
    let b = begun file site.start site.begins in
    record {
      script = b.script;
      is_accepted = b.is_accepted;
      value = value_in b.script r;
      stands = site_stands file b.script b.is_accepted site.before b.value b.stands site.ran;
    }

pub swap : Swap defined_saving
swap file old new one other =
    let a = running_stands file old one in
    let b = running_stands file new other in
    let fs = a.script in
    let v = value_in fs old in
    record {
      script = fs;
      is_accepted = a.is_accepted;
      same = λ e ps here there site beside f g. same_story file fs a.is_accepted ps v
          (record { sound = a.stands.sound; value = refl })
          (record {
            sound = subst (λ gs. sound_words (main_depth gs) new.slots new.heads ≡ true)
                (same_script (sym b.is_accepted ∙ a.is_accepted)) b.stands.sound;
            value = e;
          }) site beside f g;
    }
