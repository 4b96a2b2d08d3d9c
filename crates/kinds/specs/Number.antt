-- The numbers of the refusals. Paper 01, 'From the input, in this order' and 'From the state, after those, in this order'; 31: request No. 2.
use Rattle.std.specs.Prelude.{ℕ, eqb, cond, Result, Ok, Err}
use Rattle.kinds.specs.declared.refusal.Refusal.{Refusal}
use Rattle.kinds.specs.declared.refusal.Refusal.TheVariants.{NotSixtyFour, KindUnknown, RowUnknown, RouteNotAllowed, UserNotAllowed, CountNotAllowed, DossierZero, NotNumber, Unlisted, OverLimit, SumOver, NotCompartment, Broken, Held, Full, NoRecord, UsageMissing}

abbrev pub number : Refusal → ℕ
number NotSixtyFour = 1
number KindUnknown = 2
number RowUnknown = 3
number RouteNotAllowed = 4
number UserNotAllowed = 5
number CountNotAllowed = 6
number DossierZero = 7
number NotNumber = 8
number Unlisted = 9
number OverLimit = 10
number SumOver = 11
number NotCompartment = 12
number Broken = 21
number Held = 22
number Full = 23
number NoRecord = 24
number UsageMissing = 31

-- the refusal that has a number
unfoldable pub refusal_at : ℕ → Refusal
refusal_at n =
    cond (eqb n 1) NotSixtyFour
    (cond (eqb n 2) KindUnknown
    (cond (eqb n 3) RowUnknown
    (cond (eqb n 4) RouteNotAllowed
    (cond (eqb n 5) UserNotAllowed
    (cond (eqb n 6) CountNotAllowed
    (cond (eqb n 7) DossierZero
    (cond (eqb n 8) NotNumber
    (cond (eqb n 9) Unlisted
    (cond (eqb n 10) OverLimit
    (cond (eqb n 11) SumOver
    (cond (eqb n 12) NotCompartment
    (cond (eqb n 21) Broken
    (cond (eqb n 22) Held
    (cond (eqb n 23) Full
    (cond (eqb n 24) NoRecord
    UsageMissing)))))))))))))))

-- the number that a result is answered by: 0 for none
abbrev pub refused : {T : Type 0} → Result T Refusal → ℕ
refused (Ok x) = 0
refused (Err r) = number r
