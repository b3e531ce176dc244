-- Two functions whose trees stand in plain code, an if with a map in it and a reduce: the walk's law is not empty.
use Rattle.std.specs.Prelude.{◌≡◌, refl, [], ◌∷◌, ◌++◌}
use Rattle.prelude.specs.Kit.{arith}
use Rattle.semantics.specs.Basics.{updated}
use Rattle.semantics.specs.Syntax.{Function, name, if_else, loop, none, more}
use Rattle.semantics.specs.Kinds.{mapping, reducing, Borrowing}
use Rattle.semantics.specs.Code.{rows}
use Rattle.semantics.specs.Live.{empty, uses}
use Rattle.semantics.specs.Normal.{normal, normal_body, parameter_names, lines, atom, fresh}
use Rattle.semantics.specs.Annotate.{NameDepths, full_style, annotate}
use Rattle.plain_rows.specs.Plain.{Plain, plain, placed, line_at}
use Rattle.plain_rows.specs.Marks.{marked, marked_all, extent, marks}
use Rattle.plain_rows.specs.Stands.{Stands, line_with}
use Rattle.plain_rows.specs.Walk.{point, tree_walk}
use Rattle.annotate_laws.specs.Whole.{body_walk}

-- if the first parameter, then the second, else a map over the second that gives each element
unfoldable pub sample : Function
sample = record {
  parameters = record { id = 7; depth = 0 } ∷ (record { id = 8; depth = 1 } ∷ []);
  result = 1;
  body = if_else (name 7) (name 8) (loop mapping (9 ∷ []) (more (name 8) none) (name 9));
}

-- rows: the if at 0, its trees at 2 and 4; the map at 4, its tree at 6; ends at 2, 6, 8 and 10
unfoldable pub sample_code : Plain
sample_code =
    plain []
    (524 ∷ (0 ∷ (16 ∷ (1 ∷ (262925 ∷ (1 ∷ (16 ∷ (4 ∷ (16 ∷ (3 ∷ (16 ∷ (2 ∷ []))))))))))))
    (0 ∷ (0 ∷ (4 ∷ (0 ∷ (4 ∷ (3 ∷ (6 ∷ (0 ∷ (4 ∷ (0 ∷ (0 ∷ (0 ∷ []))))))))))))

sample_stands : Stands sample_code 2 (normal_body sample) 0 (λ _. 0)
unfolding sample sample_code normal_body normal lines atom fresh parameter_names line_at placed line_with marked
    marked_all updated extent marks
sample_stands = (
  (
    (refl, refl),
    refl,
    omega arith,
    (refl, omega arith),
    ((refl, refl), refl),
    (((refl, refl), (refl, tt), omega arith, omega arith, ((refl, refl), refl)), refl, ((refl, refl), refl)),
  ),
  refl,
  ((refl, refl), refl),
)

-- the walk of it, from the row of its last end on
pub sample_walk : (B : Borrowing) (Γ : NameDepths) →
    tree_walk sample_code B Γ 3 10 (point empty (marks (normal_body sample) 0 (λ _. 0)) [])
    ≡ point (uses (normal_body sample)) (λ _. 0) (rows (annotate full_style B Γ (normal_body sample) empty) ++ [])
unfolding sample normal_body normal lines atom fresh extent
sample_walk B Γ = body_walk sample_code B Γ sample 2 sample_stands (omega arith) empty []

-- a reduce from the first parameter over the second that gives each element
unfoldable pub reduced : Function
reduced = record {
  parameters = record { id = 7; depth = 0 } ∷ (record { id = 8; depth = 1 } ∷ []);
  result = 0;
  body = loop reducing (9 ∷ (10 ∷ [])) (more (name 7) (more (name 8) none)) (name 10);
}

-- rows: the reduce at 0, its names 2, 3 and 4, its atoms at 1 and 2, its tree at 3; ends at 3 and 5
unfoldable pub reduced_code : Plain
reduced_code =
    plain []
    (67306004 ∷ (0 ∷ (1 ∷ (16 ∷ (4 ∷ (16 ∷ (2 ∷ [])))))))
    (0 ∷ (0 ∷ (0 ∷ (3 ∷ (0 ∷ (0 ∷ (0 ∷ [])))))))

reduced_stands : Stands reduced_code 1 (normal_body reduced) 0 (λ _. 0)
unfolding reduced reduced_code normal_body normal lines atom fresh parameter_names line_at placed line_with marked
    marked_all updated extent marks
reduced_stands = (
  ((refl, refl), (refl, (refl, tt)), omega arith, omega arith, ((refl, refl), refl)),
  refl,
  ((refl, refl), refl),
)

pub reduced_walk : (B : Borrowing) (Γ : NameDepths) →
    tree_walk reduced_code B Γ 2 5 (point empty (marks (normal_body reduced) 0 (λ _. 0)) [])
    ≡ point (uses (normal_body reduced)) (λ _. 0) (rows (annotate full_style B Γ (normal_body reduced) empty) ++ [])
unfolding reduced normal_body normal lines atom fresh extent
reduced_walk B Γ = body_walk reduced_code B Γ reduced 1 reduced_stands (omega arith) empty []
