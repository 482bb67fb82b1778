-- Events in order: an insertion keeps them so, and an event goes after what it does not precede and before what it
-- precedes, which a search by halves finds.
use mathlib.Core.Path.{◌≡◌, refl, sym, ap, ◌∙◌}
use mathlib.Core.Bool.{Bool, true, false, not, true≢false}
use mathlib.Core.List.{List, [], ◌∷◌}
use Prim.Native.Nat.{ℕ, zero, suc, ◌+◌, ◌≤◌, ◌<◌}
use native.Mathlib.Omega.{arith}
use lib.ListN.{length, get_or}
use lib.Ieee.{Float, is_nan}
use Rattle.std.specs.List.Sorted.{IsPartitionedBy}
use borrow.Author.Tests.{not-true}
use Rattle.float.specs.Order.{total_order}
use Rattle.std.specs.declared.cmp.Ordering.{Ordering}
use Rattle.std.specs.declared.cmp.Ordering.TheVariants.{Less, Equal, Greater}
use Rattle.basics.specs.Lists.{put_at, Each}
use Rattle.basics.proofs.Lists.{each_implies}
use Rattle.basics.proofs.Tests.{cannot, cond_case}
use Rattle.float.proofs.Orders.{less_greater, not_less_transitive}
use Rattle.edges.specs.declared.event.EdgeEvent.{EdgeEvent}
use Rattle.edges.specs.Events.{precedes, insert, sort_into}
use Rattle.edges.specs.Order.{AscendFrom, Ascend, Placed, Storable, Sorted}
use Rattle.edges.proofs.Each.{each_insert}

-- ---- `precedes` is an order of lambdas
is_less : (o : Ordering) → precedes o ≡ true → o ≡ Less
is_less Less h = refl
is_less Equal h = absurd (true≢false (sym h))
is_less Greater h = absurd (true≢false (sym h))

not_less : (o : Ordering) → precedes o ≡ false → o ≡ Less → ⊥
not_less o h q = true≢false (sym (ap precedes q) ∙ h)

precedes_once : (x y : Float) → precedes (total_order x y) ≡ true → precedes (total_order y x) ≡ false
precedes_once x y h = ap precedes (less_greater x y (is_less (total_order x y) h))

-- where y does not precede x, nor z y, z does not precede x
pub not_precedes_transitive : (x y z : Float) → is_nan x ≡ false → is_nan y ≡ false → is_nan z ≡ false →
    precedes (total_order y x) ≡ false → precedes (total_order z y) ≡ false →
    precedes (total_order z x) ≡ false
not_precedes_transitive x y z nx ny nz h k =
    cannot _ (λ p. not_less_transitive x y z nx ny nz (not_less (total_order y x) h) (not_less (total_order z y) k)
    (is_less (total_order z x) p))

-- ---- an insertion keeps the order
insert_from : (e : EdgeEvent) (x : Float) (es : List EdgeEvent) → precedes (total_order e.lambda x) ≡ false →
    AscendFrom x es → AscendFrom x (insert e es)
unfolding insert
insert_from e x [] h k = (h, tt)
insert_from e x (y ∷ ys) h k =
    cond_case (AscendFrom x) (precedes (total_order e.lambda y.lambda)) _ _
    (λ p. (h, (precedes_once e.lambda y.lambda p, k.1)))
    (λ p. (k.0, insert_from e y.lambda ys p k.1))

pub insert_ascends : (e : EdgeEvent) (es : List EdgeEvent) → Ascend es → Ascend (insert e es)
unfolding insert
insert_ascends e [] h = tt
insert_ascends e (y ∷ ys) h =
    cond_case Ascend (precedes (total_order e.lambda y.lambda)) _ _
    (λ p. (precedes_once e.lambda y.lambda p, h))
    (λ p. insert_from e y.lambda ys p h)

pub sort_ascends : (es acc : List EdgeEvent) → Ascend acc → Ascend (sort_into es acc)
unfolding sort_into
sort_ascends [] acc h = h
sort_ascends (e ∷ es) acc h = sort_ascends es (insert e acc) (insert_ascends e acc h)

-- ---- sorted events stay so
pub sorted_none : Sorted []
sorted_none = record { ascend = tt; storable = tt }

pub sorted_insert : (e : EdgeEvent) (acc : List EdgeEvent) {r : List EdgeEvent} → Storable e → Sorted acc →
    r ≡ insert e acc → Sorted r
sorted_insert e acc h s q =
    rw q (record { ascend = insert_ascends e acc s.ascend; storable = each_insert Storable e acc h s.storable })

-- none of them is a NaN
pub sorted_placed : {es : List EdgeEvent} → Sorted es → Each Placed es
sorted_placed {es} s = each_implies Storable Placed (λ e h. h.1) es s.storable

-- ---- the place of an event
tail_ascends : (x : Float) (es : List EdgeEvent) → AscendFrom x es → Ascend es
tail_ascends x [] h = tt
tail_ascends x (e ∷ es) h = h.1

module _ (e : EdgeEvent) (n : Placed e) where
  abbrev pub ahead : EdgeEvent → Bool
  ahead x = precedes (total_order e.lambda x.lambda)

  -- what the search asks of an event
  abbrev pub behind : EdgeEvent → Bool
  behind x = not (ahead x)

  -- where e does not precede one event, it does not precede those before it
  not_before : (x : EdgeEvent) (es : List EdgeEvent) (i : ℕ) (d : EdgeEvent) → Each Placed (x ∷ es) →
      AscendFrom x.lambda es → i ≤ length es → ahead (get_or (x ∷ es) i d) ≡ false → ahead x ≡ false
  not_before x es zero d s a l h = h
  not_before x [] (suc i) d s a l h = absurd (omega arith)
  not_before x (y ∷ ys) (suc i) d s a l h =
      not_precedes_transitive x.lambda y.lambda e.lambda s.0 s.1.0 n a.0
      (not_before y ys i d s.1 a.1 (omega arith) h)

  -- so that the events are those behind which e goes, and then the others
  pub parted : (es : List EdgeEvent) → Ascend es → Each Placed es → IsPartitionedBy behind es
  parted [] a s i j d l t h = absurd (omega arith)
  parted (x ∷ xs) a s zero j d l t h = ap not (not_before x xs j d s a (omega arith) (not-true _ h))
  parted (x ∷ xs) a s (suc i) zero d l t h = absurd (omega arith)
  parted (x ∷ xs) a s (suc i) (suc j) d l t h =
      parted xs (tail_ascends x.lambda xs a) s.1 i j d (omega arith) (omega arith) h

  -- put at a place that is after what it does not precede, and before what it precedes, it is inserted
  pub placed : (es : List EdgeEvent) (p : ℕ) (d : EdgeEvent) → Ascend es → Each Placed es → p ≤ length es →
      ((i : ℕ) → i + 1 ≡ p → ahead (get_or es i d) ≡ false) → (p < length es → ahead (get_or es p d) ≡ true) →
      put_at p e es ≡ insert e es
  unfolding insert
  placed [] zero d a s l f g = refl
  placed [] (suc p) d a s l f g = absurd (omega arith)
  placed (x ∷ xs) zero d a s l f g = let t : ahead x ≡ true = g (omega arith) in rw t
  placed (x ∷ xs) (suc p) d a s l f g =
      let t : ahead x ≡ false = not_before x xs p d s a (omega arith) (f p (omega arith)) in
      rw (
        t,
        placed xs p d (tail_ascends x.lambda xs a) s.1 (omega arith) (λ i h. f (suc i) (omega arith))
            (λ h. g (omega arith)),
      )
