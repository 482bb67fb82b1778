-- Records put one after another into lists that are long enough stand flattened at their start: each is put after those
-- before it, and moves none of them.
use mathlib.Core.Path.{◌≡◌, refl, sym, ap}
use Prim.Native.Nat.{ℕ, suc, ◌+◌, ◌*◌, ◌<◌, ◌≤◌}
use native.Mathlib.Numerals.{add-one}
use native.Mathlib.Omega.{arith}
use mathlib.Core.List.{List, [], ◌∷◌, ◌++◌}
use lib.Ieee.{Float}
use lib.ListN.{length, get_or, set, take, length-set}
use lib.Seq.{take-suc, take-suc-set}
use Rattle.records.specs.declared.Sample.{Sample}
use Rattle.records.specs.Records.{pairs_of, marks_of}

-- ---- how long the lists are

pub marks_count : (ss : List Sample) → length (marks_of ss) ≡ length ss
marks_count [] = refl
marks_count (s ∷ ss) = ap suc (marks_count ss)

-- ---- the flat lists of one record more

pairs_snoc : (ss : List Sample) (s : Sample) →
    pairs_of (ss ++ s ∷ []) ≡ (pairs_of ss ++ s.point.u ∷ []) ++ s.point.v ∷ []
pairs_snoc [] s = refl
pairs_snoc (t ∷ ss) s = rw (pairs_snoc ss s)

marks_snoc : (ss : List Sample) (s : Sample) → marks_of (ss ++ s ∷ []) ≡ marks_of ss ++ s.mark ∷ []
marks_snoc [] s = refl
marks_snoc (t ∷ ss) s = rw (marks_snoc ss s)

-- ---- record i, put after those before it

-- u and v at the two places after 2·i
two_more : (ps : List Float) (i : ℕ) (u v : Float) → 2 * suc i ≤ length ps →
    take (2 * suc i) (set (set ps (2 * i) u) (2 * i + 1) v) ≡ (take (2 * i) ps ++ u ∷ []) ++ v ∷ []
two_more ps i u v k =
    let e : 2 * suc i ≡ suc (suc (2 * i)) = omega arith in
    let o : 2 * i + 1 ≡ suc (2 * i) = omega arith in
    let near : 2 * i < length ps = omega arith in
    let far : suc (2 * i) < length (set ps (2 * i) u) = simp length-set (omega arith) in
    rw (e, o, take-suc-set (set ps (2 * i) u) (suc (2 * i)) v far, take-suc-set ps (2 * i) u near)

module _ (ss : List Sample) (i : ℕ) (z : Sample) (h : i < length ss) where
  abbrev record_i : Sample
  record_i = get_or ss i z

  pub pairs_more : (ps : List Float) → 2 * suc i ≤ length ps → take (2 * i) ps ≡ pairs_of (take i ss) →
      take (2 * (i + 1)) (set (set ps (2 * i) record_i.point.u) (2 * i + 1) record_i.point.v)
      ≡ pairs_of (take (i + 1) ss)
  pairs_more ps k e =
      rw (add-one, two_more ps i record_i.point.u record_i.point.v k, e, take-suc ss i z h)
      (sym (pairs_snoc (take i ss) record_i))

  pub marks_more : (ms : List ℕ) → i < length ms → take i ms ≡ marks_of (take i ss) →
      take (i + 1) (set ms i record_i.mark) ≡ marks_of (take (i + 1) ss)
  marks_more ms k e =
      rw (add-one, take-suc-set ms i record_i.mark k, e, take-suc ss i z h) (sym (marks_snoc (take i ss) record_i))
