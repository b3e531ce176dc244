-- Twin trees: their ends, and lines one after the other.
use Rattle.prelude.specs.Kit.{ℕ, ◌≤◌, ◌+◌, arith, ◌≡◌, refl, ◌∙◌, subst, List, [], ◌∷◌, ◌++◌, ℤ}
use Rattle.semantics.specs.Basics.{occurrences, ◌∈◌}
use Rattle.semantics.specs.Outcome.{done}
use Rattle.semantics.specs.Code.{Atom, Line, Tree, end, line}
use Rattle.semantics.specs.Live.{Set, live}
use Rattle.semantics.specs.Annotate.{NameDepths}
use Rattle.semantics.specs.Machine.{State, Frame, Routine, Program, word, work, work_line}
use Rattle.laws.specs.Lists.{occurrences_append}
use Rattle.discipline.proofs.store.Counting.{in_append_right}
use Rattle.discipline.proofs.machine.Discipline.{holds_after, waits_after}
use Rattle.discipline.proofs.machine.Frames.{Setting, Going, given}
use Rattle.discipline.proofs.machine.Size.{tree_adds, line_adds}
use Rattle.discipline.proofs.machine.Rules.{LineRules, line_rules, rest_rules}
use Rattle.discipline.proofs.machine.Claims.{LineClaim}
use Rattle.leaner.proofs.Runs.{Race, both, twins_map, twins_bind}
use Rattle.leaner.proofs.Beside.{Around, Here, Known, known, Same, images_stay, Stays}
use Rattle.leaner.proofs.Beside.{atom_same}
use Rattle.leaner.proofs.Owing.{LineOwes}
use Rattle.leaner.proofs.Claims.{first_setting, leaner_setting, Before, before_less, TreeEnded, TreeTwins}
use Rattle.leaner.proofs.Claims.{LineTwins}

-- ---- one run goes on

pub record WentOn (C : Setting) (a : Around) (l : Line) (H Δ : List ℕ) (ρ : Frame) (n : ℕ) (ρ' : Frame) (s : State) :
    Type 0 where
  pub here : Here C a (holds_after C.program.borrowing C.depths l H) (waits_after C.depths l) ρ' n s
  pub words : (y : ℕ) → y ∈ Δ → ρ' y ≡ ρ y

pub goes_on : {C : Setting} {a : Around} {l : Line} {S A : Set} {H P Δ : List ℕ} {ρ ρ' : Frame} {k : ℕ} {s s' : State} →
    LineClaim C l → LineRules C l a.lent S A H P Δ → Here C a H P ρ (line_adds l + k) s → C.need ≤ k →
    work_line C.callee C.program.borrowing C.depths l A a.roots ρ s ≡ done ρ' s' →
    WentOn C a l H Δ ρ k ρ' s'
goes_on {C} {a} {l} {S} {A} {H} {P} {Δ} {ρ} {ρ'} {k} {s} {s'} claim rules q need e = record {
  here = record {
    values = g.value;
    meter = g.meter;
    together = g.holds.together;
    situation = g.holds.situation;
  };
  words = g.holds.words;
}
  where
    g : Known (Going C l s.store a.aside a.others a.roots a.lent H Δ ρ q.values k) ρ' s'
    g = known (claim a.lent S A H P Δ rules a.aside a.others a.roots ρ q.values k s q.meter
        q.together q.situation need) e

-- ---- two trees

module _ (r : Race) (p : Program) (rs : List Routine) (n : ℕ) (Γ : NameDepths) where
  abbrev C : Setting
  C = first_setting r p n Γ

  abbrev C' : Setting
  C' = leaner_setting r p rs n Γ

  pub twin_end : (b : Atom) → TreeTwins r p rs n Γ [] (end b) (end b)
  unfolding work tree_adds
  twin_end b S S' L L' H H' P P' Δ Δ' d E π a a' ρ ρ' k k' s s' rules rules' fewer q need need' = both record {
    cells = π;
    tied = q.tied;
    result = subst (λ (e : ℕ). Same e π (word ρ b) (word ρ' b)) rules.fits
        (atom_same C q.framed b (λ y h. inside y (omega (arith, h, left_over y))));
    words = λ y h. q.framed.cells y (inside y (omega (arith, h, left_over y)));
    stays = λ c h. refl;
  }
    where
      left_over : (y : ℕ) → occurrences y H' ≡ occurrences y (given C (b ∷ [])) + occurrences y Δ'
      left_over y = rules'.holds y ∙ occurrences_append y (given C (b ∷ [])) Δ'

      inside : (y : ℕ) → y ∈ H' → y ∈ (P' ++ (a'.lent ++ H'))
      inside y h = in_append_right y P' (a'.lent ++ H') (in_append_right y a'.lent H' h)

  module _ (lines : (l : Line) → LineClaim C l) (lines' : (l : Line) → LineClaim C' l) where
    -- what a tree leaves is as before the line
    pub ended_back : {d : ℕ} {E : List ℕ} {π π₁ : ℕ → ℕ} {a' : Around} {Δ : List ℕ} {ρ ρ₁ ρ' ρ₁' : Frame} {w w' : ℤ}
        {s s' : State} → ((y : ℕ) → y ∈ Δ → ρ₁ y ≡ ρ y) → ((y : ℕ) → y ∈ Δ → ρ₁' y ≡ ρ' y) →
        Stays π π₁ (a'.aside ++ a'.others) → TreeEnded r p rs n Γ d E π₁ a' Δ ρ₁ ρ₁' w s w' s' →
        TreeEnded r p rs n Γ d E π a' Δ ρ ρ' w s w' s'
    ended_back words words' stays e = record {
      cells = e.cells;
      tied = e.tied;
      result = e.result;
      words = λ y h. rw (← words y h, ← words' y h) (e.words y h);
      stays = λ c h. e.stays c h ∙ stays c h;
    }

    pub twin_line : (X X' : List ℕ) (l l' : Line) (t t' : Tree) → LineTwins r p rs n Γ X l l' →
        LineOwes C' X X' l l' →
        TreeTwins r p rs n Γ X' t t' → TreeTwins r p rs n Γ X (line l t) (line l' t')
    unfolding work tree_adds
    twin_line X X' l l' t t' first owed rest S S' L L' H H' P P' Δ Δ' d E π a a' ρ ρ' k k' s s' rules rules' fewer q
        need need' =
        twins_bind r (first S S' (live t L) (live t' L') H H' P P' Δ Δ' E π a a' ρ ρ' (tree_adds t + k)
        (tree_adds t' + k') s s' (line_rules C rules) (line_rules C' rules') q' (omega arith) (omega arith))
        (λ ρ₁ s₁ ρ₁' s₁' e e' g.
        let on = goes_on (lines l) (line_rules C rules) q'.first (omega arith) e in
        let on' = goes_on (lines' l') (line_rules C' rules') q'.leaner (omega arith) e' in
        twins_map r (λ w s₂ w' s₂' z. ended_back (λ y h. on.words y (fewer y h)) on'.words g.stays z)
        (rest _ _ L L' _ _ _ _ Δ Δ' d E g.cells a a' ρ₁ ρ₁' k k' s₁ s₁' (rest_rules C l rules)
        (rest_rules C' l' rules') fewer record {
          first = on.here;
          leaner = on'.here;
          tied = g.tied;
          framed = g.framed;
          images = images_stay g.stays q.images;
          owes = owed a'.lent S' (live t' L') H H' P' Δ' (line_rules C' rules') q.owes;
          exempt = q.exempt;
        } need need'))
      where
        q' : Before r p rs n Γ X E π a a' H H' P P' ρ ρ' (line_adds l + (tree_adds t + k))
            (line_adds l' + (tree_adds t' + k')) s s'
        q' = before_less r p rs n Γ (omega arith) (omega arith) q
