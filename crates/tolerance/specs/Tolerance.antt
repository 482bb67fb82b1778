-- Rules 2.3: the three tolerances that come with a surface, and what refusal 13 asks of them.
use Rattle.std.specs.Prelude.{Bool, ◌&&◌, Float}
use Rattle.std.specs.Float.Ieee.{lt, le}
use Rattle.float.specs.Consts.{eps, zero64, one64}
use Rattle.float.specs.Sign.{is_finite}
use Rattle.refusal.specs.declared.Refusal.TheVariants as refusals
use Rattle.refusal.specs.Refusals.{Check, passed, unless}
use Rattle.tolerance.specs.declared.Tolerances.{Tolerances}

-- for the u seam, for the v seam, and for neighbouring points of a line
abbrev pub tolerances : Float → Float → Float → Tolerances
tolerances u v line = record { u = u; v = v; line = line }

-- EPS for all three
abbrev pub every_eps : Tolerances
every_eps = tolerances eps eps eps

-- what refusal 13 asks of a tolerance: it is finite, above zero, and not above 1
abbrev pub tolerance_fits : Float → Bool
tolerance_fits t = is_finite t && (lt zero64 t && le t one64)

-- all three fit, be they used or not
abbrev pub tolerances_fit : Tolerances → Bool
tolerances_fit t = tolerance_fits t.u && (tolerance_fits t.v && tolerance_fits t.line)

-- refusal 13 of the three
abbrev pub tolerances_check : Tolerances → Check
tolerances_check t = unless (tolerances_fit t) refusals.Tolerance passed
