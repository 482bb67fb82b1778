-- For inner contracts only: the events of a leg in order, and where they stand (Rules 6.4). Their lambdas are in one
-- list and the numbers of their sides in another, each of 1,023 places, and a count says how many there are.
use Rattle.std.specs.Prelude.{Bool, true, false, not, List, [], ◌∷◌, ◌≡◌, ℕ, ◌+◌, ◌≤◌, ◌<◌, length, take, get_or, Float}
use Rattle.std.specs.Float.{nan}
use Rattle.std.specs.Float.Ieee.{is_nan}
use Rattle.basics.specs.Lists.{Each}
use Rattle.float.specs.Order.{total_order}
use Rattle.edges.specs.declared.event.EdgeEvent.{EdgeEvent}
use Rattle.edges.specs.Events.{event, precedes}
use Rattle.edges.specs.Side.{Codable, edge_of}

-- events whose lambdas ascend in the total order, the first not before x
abbrev pub AscendFrom : Float → List EdgeEvent → Type 0
AscendFrom x [] = Unit
AscendFrom x (e ∷ es) = (precedes (total_order e.lambda x) ≡ false) × AscendFrom e.lambda es

abbrev pub Ascend : List EdgeEvent → Type 0
Ascend [] = Unit
Ascend (e ∷ es) = AscendFrom e.lambda es

-- an event that has a place in an order: its lambda is no NaN
abbrev pub Placed : EdgeEvent → Type 0
Placed e = is_nan e.lambda ≡ false

-- and one that the lists take: its side has a number too
abbrev pub Storable : EdgeEvent → Type 0
Storable e = Codable e.edge × Placed e

-- such events, in order
pub record Sorted (es : List EdgeEvent) : Type 0 where
  pub ascend : Ascend es
  pub storable : Each Storable es

-- what l goes behind in an order: what it does not precede
abbrev pub is_behind : Float → Float → Bool
is_behind l other = not (precedes (total_order l other))

-- a place among the first `count` lambdas: l does not precede the one before it, and precedes the one that stands
-- there
pub record PlaceOf (l : Float) (lambdas : List Float) (count place : ℕ) : Type 0 where
  pub most : place ≤ count
  pub after : (i : ℕ) → i + 1 ≡ place → precedes (total_order l (get_or lambdas i nan)) ≡ false
  pub before : place < count → precedes (total_order l (get_or lambdas place nan)) ≡ true

abbrev pub event_of : Float → ℕ → EdgeEvent
event_of l c = event l (edge_of c)

-- the events that two lists hold
unfoldable pub held : List Float → List ℕ → List EdgeEvent
held [] cs = []
held (l ∷ ls) [] = []
held (l ∷ ls) (c ∷ cs) = event_of l c ∷ held ls cs

-- the first `count` of them
abbrev pub events_in : List Float → List ℕ → ℕ → List EdgeEvent
events_in lambdas codes count = take count (held lambdas codes)

-- two lists of 1,023 places, of which the first `count` hold events in order
pub record Ordered (lambdas : List Float) (codes : List ℕ) (count : ℕ) : Type 0 where
  pub lambdas_length : length lambdas ≡ 1023
  pub codes_length : length codes ≡ 1023
  pub few : count ≤ 1023
  pub sorted : Sorted (events_in lambdas codes count)
