-- The passes of a loop that reads its array and fills a new cell, by the rules of one run.
use Rattle.prelude.specs.Kit.{ℕ, ◌≤◌, suc, pred, ◌≡◌, refl, sym, ap, subst, List, [], ◌∷◌, ◌++◌}
use Rattle.semantics.specs.Kinds.{mapping, filtering}
use Rattle.semantics.specs.Code.{Atom, loop, Tree, ending}
use Rattle.semantics.specs.Live.{Set, ◌∪◌, just, after_pass}
use Rattle.semantics.specs.Annotate.{atom_depth}
use Rattle.laws.specs.Lists.{◌⊆◌}
use Rattle.discipline.proofs.machine.Discipline.{less}
use Rattle.discipline.proofs.machine.Frames.{Setting, given, own}
use Rattle.discipline.proofs.machine.Fits.{map_fits, filter_fits, first_same}
use Rattle.discipline.proofs.machine.Rules.{LineRules, TreeRules, Fresh, fresh}
use Rattle.discipline.proofs.machine.Passes.{outer, lent_names}
use Rattle.discipline.proofs.machine.Sites.{Site, loop_site, site_reads, site_names, site_tree}

-- A pass over the array v names its element z, and its tree gives depth e; the names S are known in it, and L is live
-- after it. Before the loop B is lent and H held.
pub record PassSite (C : Setting) (z : ℕ) (v : Atom) (t : Tree) (B : List ℕ) (S L : Set) (H : List ℕ) (e : ℕ) :
    Type 0 where
  pub reads : given C (v ∷ []) ⊆ (B ++ H)
  pub names : Fresh z (lent_names C v B H) (outer C v B H) (outer C v B H)
  pub tree : TreeRules C t (lent_names C v B H) S L (outer C v B H) (own C z) (outer C v B H) e
  pub array : atom_depth C.depths v ≡ suc (C.depths z)

module _ (C : Setting) {x z : ℕ} {v : Atom} {t : Tree} {B : List ℕ} {S A : Set} {H P Δ : List ℕ} where
  -- the result of a map has elements of the depth that its tree gives
  pub map_depths : LineRules C (loop x mapping (z ∷ []) (v ∷ []) t) B S A H P Δ →
      (atom_depth C.depths (ending t) ≤ 3) × (C.depths x ≡ suc (atom_depth C.depths (ending t)))
  map_depths rules =
      map_fits (atom_depth C.depths v) (atom_depth C.depths (ending t)) (C.depths x) rules.fits.0.gives

  pub map_site : LineRules C (loop x mapping (z ∷ []) (v ∷ []) t) B S A H P Δ →
      PassSite C z v t B (S ∪ just (z ∷ [])) (after_pass x (z ∷ []) t A) H (pred (C.depths x))
  unfolding less
  map_site rules = record {
    reads = site_reads C site;
    names = fresh z rules.scoped.2.0.unknown (site_names C site);
    tree = subst (λ (d : ℕ). TreeRules C t (lent_names C v B H) (S ∪ just (z ∷ [])) (after_pass x (z ∷ []) t A)
        (outer C v B H) (own C z) (outer C v B H) d) (sym (ap pred (map_depths rules).1)) (site_tree C site);
    array = site.array;
  }
    where
      site : Site C x mapping (z ∷ []) (v ∷ []) t v z B S A H P Δ
      site = loop_site C rules refl refl (first_same rules.fits.0.names) rules.fits.0.deep

  -- a filter's tree gives a number, and its result has the array's depth
  pub filter_depths : LineRules C (loop x filtering (z ∷ []) (v ∷ []) t) B S A H P Δ →
      (atom_depth C.depths (ending t) ≡ 0) × (C.depths x ≡ atom_depth C.depths v)
  filter_depths rules =
      filter_fits (atom_depth C.depths v) (atom_depth C.depths (ending t)) (C.depths x) rules.fits.0.gives

  pub filter_site : LineRules C (loop x filtering (z ∷ []) (v ∷ []) t) B S A H P Δ →
      PassSite C z v t B (S ∪ just (z ∷ [])) (after_pass x (z ∷ []) t A) H 0
  unfolding less
  filter_site rules = record {
    reads = site_reads C site;
    names = fresh z rules.scoped.2.0.unknown (site_names C site);
    tree = subst (λ (d : ℕ). TreeRules C t (lent_names C v B H) (S ∪ just (z ∷ [])) (after_pass x (z ∷ []) t A)
        (outer C v B H) (own C z) (outer C v B H) d) (filter_depths rules).0 (site_tree C site);
    array = site.array;
  }
    where
      site : Site C x filtering (z ∷ []) (v ∷ []) t v z B S A H P Δ
      site = loop_site C rules refl refl (first_same rules.fits.0.names) rules.fits.0.deep
