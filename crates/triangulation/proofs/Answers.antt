-- The answers of both calls: their refusals in order, and what is known where none applies. The call over found seams
-- is the two calls in turn, and that is one call with one test: what the search finds fits, so that 14 is never given,
-- and a refusal is that of the second whatever the first says.
use Rattle.std.specs.Prelude.{Ok, Err}
use Rattle.cyclic.specs.Mapping.{Seam}
use Rattle.refusal.specs.Refusals.{Check, passed}
use Prim.Native.Nat.{ℕ}
use mathlib.Core.Path.{◌≡◌, refl}
use mathlib.Core.Bool.{true}
use mathlib.Core.List.{List}
use lib.Ieee.{Float}
use Rattle.refusal.specs.declared.Refusal.{Refusal}
use Rattle.refusal.specs.declared.Refusal.TheVariants.{Mapping}
use Rattle.refusal.specs.Refusals.{Answer, ok, refused, number_of, values_or, unless}
use Rattle.refusal.proofs.Laws.{then_passed, unless_passed}
use Rattle.tolerance.specs.declared.Tolerances.{Tolerances}
use Rattle.lent.specs.Lent.{Afterwards, afterwards, answering, if_passed}
use Rattle.lent.proofs.Laws.{answered_in}
use Rattle.grid.specs.Grid.{Accepted}
use Rattle.grid.proofs.Laws.{accepted_known}
use Rattle.surface.specs.Found.{u_search, v_search, surface_with, surface_of}
use Rattle.surface.specs.Given.{seams_fit}
use Rattle.surface.proofs.Joinings.{given_map, found_fits}
use Rattle.grid_seams.specs.declared.Seams.{Seams}
use Rattle.grid_seams.specs.Seams.{seams_of, find_seams}
use Rattle.mesh.specs.declared.MeshCounts.{MeshCounts}
use Rattle.mesh.specs.Mesh.{MeshLists, mesh_lists, written, mesh_check}
use Rattle.mesh.specs.Bounded.{Bounded}
use Rattle.mesh.proofs.Answers.{Admitted, admitted}
use Rattle.triangulation.specs.declared.Meshed.{Meshed}
use Rattle.triangulation.specs.Triangulation.{given_check, triangulate_seams, meshed, no_seams, triangulate_grid}

module _ (g : List Float) (m n : ℕ) (tolerances : Tolerances) where
  -- seams that fit are those of a surface that can be triangulated
  pub fitting_bounded : (u v : Seam) → Accepted g m n → seams_fit g m n tolerances u v ≡ true →
      Bounded m n u v
  fitting_bounded u v h fit =
      let s = (accepted_known g m n h).steps in
      let maps = given_map g m n tolerances u v fit in
      record {
        m_least = s.m_least;
        m_most = s.m_most;
        n_least = s.n_least;
        n_most = s.n_most;
        u_maps = maps.0;
        v_maps = maps.1;
      }

  -- those that are found fit
  pub found_fit : Accepted g m n →
      seams_fit g m n tolerances (u_search g m n tolerances.u).seam (v_search g m n tolerances.v).seam ≡ true
  found_fit h = let s = (accepted_known g m n h).steps in found_fits g m n tolerances s.m_least s.n_least

  pub found_bounded : {s : Seams} → Accepted g m n → s ≡ seams_of g m n tolerances → Bounded m n s.u.seam s.v.seam
  found_bounded h e =
      rw e (fitting_bounded (u_search g m n tolerances.u).seam (v_search g m n tolerances.v).seam h (found_fit h))

  -- where a triangulation is not refused, `find_seams` is not
  found_seams : (t f : List ℕ) → Admitted g m n tolerances t f →
      find_seams g m n tolerances ≡ ok (seams_of g m n tolerances)
  unfolding find_seams
  found_seams t f a = rw (a.tolerable, a.accepted)

  -- ---- over seams that are given

  module _ (u v : Seam) (lent : MeshLists) where
    -- the tests before 14 refuse whatever the seams are
    given_refused : {k : Refusal} → mesh_check g m n tolerances lent.triangles lent.flipped ≡ Err k →
        triangulate_seams g m n tolerances u v lent ≡ afterwards (refused (number_of k)) lent
    unfolding triangulate_seams given_check
    given_refused e = rw e

    given_written : mesh_check g m n tolerances lent.triangles lent.flipped ≡ passed →
        seams_fit g m n tolerances u v ≡ true →
        triangulate_seams g m n tolerances u v lent ≡ answering ok (written (surface_with m n u v) lent)
    unfolding triangulate_seams given_check
    given_written e fit = rw (e, fit)

  -- ---- over the seams that are found

  module _ (lent : MeshLists) where
    -- the seams that are found, and the lists over them
    abbrev over_found : Afterwards (Answer Meshed) MeshLists
    over_found = answering (meshed (seams_of g m n tolerances)) (written (surface_of g m n tolerances) lent)

    -- both calls as one: refusals 1, 2, 13, 3 and 4, and then these
    abbrev pub at_once : Afterwards (Answer Meshed) MeshLists
    at_once = if_passed (mesh_check g m n tolerances lent.triangles lent.flipped) lent over_found

    -- what is refused before 14 is refused whatever `find_seams` says
    turn_refused : {k : Refusal} → mesh_check g m n tolerances lent.triangles lent.flipped ≡ Err k →
        triangulate_grid g m n tolerances lent ≡ afterwards (refused (number_of k)) lent
    unfolding triangulate_grid
    turn_refused e =
        let s = values_or no_seams (find_seams g m n tolerances) in
        rw (given_refused s.u.seam s.v.seam lent e)

    turn_written : mesh_check g m n tolerances lent.triangles lent.flipped ≡ passed →
        triangulate_grid g m n tolerances lent ≡ over_found
    unfolding triangulate_grid
    turn_written e =
        let a = admitted g m n tolerances lent.triangles lent.flipped e in
        rw (
          found_seams lent.triangles lent.flipped a,
          given_written (u_search g m n tolerances.u).seam (v_search g m n tolerances.v).seam lent e
              (found_fit a.accepted),
        )

    -- the two calls in turn are that: 3 comes before 4, and 14 never
    pub in_turn_lem : triangulate_grid g m n tolerances lent ≡ at_once
    in_turn_lem = go (mesh_check g m n tolerances lent.triangles lent.flipped) refl
      where
        go : (c : Check) → mesh_check g m n tolerances lent.triangles lent.flipped ≡ c →
            triangulate_grid g m n tolerances lent ≡ if_passed c lent over_found
        go (Ok tt) e = turn_written e
        go (Err k) e = turn_refused e

  -- what is handed over: an answer with the lists t' and f', where t and f were lent
  module _ (t f : List ℕ) where
    pub refused_hands : {k : Refusal} → Err k ≡ mesh_check g m n tolerances t f →
        afterwards (refused (number_of k)) (mesh_lists t f) ≡ triangulate_grid g m n tolerances (mesh_lists t f)
    refused_hands e = rw (in_turn_lem (mesh_lists t f), ← e)

    pub passed_hands : (t' f' : List ℕ) {s : Seams} {r : MeshCounts} → passed ≡ mesh_check g m n tolerances t f →
        s ≡ seams_of g m n tolerances →
        afterwards r (mesh_lists t' f') ≡ written (surface_with m n s.u.seam s.v.seam) (mesh_lists t f) →
        afterwards (meshed s r) (mesh_lists t' f') ≡ triangulate_grid g m n tolerances (mesh_lists t f)
    passed_hands t' f' e seams w =
        rw (in_turn_lem (mesh_lists t f), ← e)
        (answered_in (meshed (seams_of g m n tolerances)) (rw seams) (rw seams at w))

  -- ---- where none of its refusals applies

  pub given_admitted : (t f : List ℕ) (u v : Seam) → given_check g m n tolerances u v t f ≡ passed →
      Admitted g m n tolerances t f × (seams_fit g m n tolerances u v ≡ true)
  unfolding given_check
  given_admitted t f u v h =
      let fit = seams_fit g m n tolerances u v in
      let both = then_passed (mesh_check g m n tolerances t f) (unless fit Mapping passed) h in
      (admitted g m n tolerances t f both.0, (unless_passed fit Mapping passed both.1).0)
