-- An atom is one node: what stands there, and that the reader goes on behind it.
use Rattle.prelude.specs.Kit.{ℕ, ◌+◌, ◌<◌, ◌*◌, ◌%◌, ◌/◌, arith, ◌≡◌, refl, ◌∙◌, sym, List, length, get_or}
use Rattle.semantics.specs.Number.{bytes_at}
use Rattle.semantics.specs.File.{at_part, look, part_count, part}
use Rattle.script_read.specs.Told.{node_outcome, parted, told, AtomSeen}
use Rattle.script_read.specs.Told.{Next}
use Rattle.std.specs.Prelude.{Ok}
use Rattle.script_read.specs.declared.Node.{Node}
use Rattle.script_read.specs.declared.Atomic.{Atomic}
use Rattle.script_read.specs.declared.Atomic.TheVariants.{Number, Name, Other}
use Rattle.script_read.proofs.Nodes.{node_says, seen, inside, number, judged, in_range}
use Rattle.script_read.proofs.Part.{goes_down}
use Rattle.script_read.proofs.Turns.{repeated_none}

abbrev node : ℕ → ℕ → ℕ → Node
node kind low high = record { kind = kind; low = low; high = high }

module _ (k w : List ℕ) (p : ℕ) where
  module _ (kind : ℕ) (is : kind ≡ get_or k p 255) where
    pub number_seen : kind ≡ 2 → AtomSeen k w p Number
    number_seen two = node_says k w at_part p (Ok (node 2 0 0)) (number k w at_part p 2 (sym two ∙ is) refl refl)

    pub name_seen : kind ≡ 3 → (u : ℕ) → u ≡ bytes_at 8 w (8 * p) → u < 256 → AtomSeen k w p (Name u)
    name_seen three u e small =
        let low : u % 256 ≡ u = omega arith in
        let high : u / 256 ≡ 0 = omega arith in
        let fits = in_range 3 u (omega arith) (omega arith) (omega arith) in
        node_says k w at_part p (Ok (node 3 u 0))
        (judged k w at_part p 3 (sym three ∙ is) refl (λ e. omega (arith, e)) u e _ (rw (low, high) at fits))

  -- a node without parts is behind the reader
  module _ (d : ℕ) (some : d ≡ 0 → ⊥) where
    goes : (x y z : ℕ) → part_count x y z ≡ 0 → node_outcome (Ok (node x y z)) p ≡ parted (look k w at_part p) →
        (p < length k) × (Next (p + 1) ≡ told (part k w d p))
    goes x y z none e = (
      inside k w at_part p (Ok (node x y z)) e _ refl,
      goes_down (seen k w at_part p (Ok (node x y z)) e _ refl) d some 0 (sym none) _ (repeated_none _ 0 (p + 1) refl),
    )

    pub atom_goes : (a : Atomic) → (a ≡ Other → ⊥) → AtomSeen k w p a →
        (p < length k) × (Next (p + 1) ≡ told (part k w d p))
    unfolding part_count
    atom_goes Number other s = goes 2 0 0 refl s
    atom_goes (Name x) other s = goes 3 x 0 refl s
    atom_goes Other other s = absurd (other refl)
