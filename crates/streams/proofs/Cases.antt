-- What holds at an `Ok` leads to what follows from it.
-- Assumes nothing.
use Rattle.std.specs.Prelude.{Result, Ok, Err, OnOk}

pub on_ok : {E : Type 0} (r : Result (Unit {0}) E) {P Q : Type 0} → (P → Q) → OnOk r P → OnOk r Q
on_ok (Ok u) f h = f h
on_ok (Err e) f h = tt
