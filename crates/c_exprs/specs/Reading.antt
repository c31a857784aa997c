-- Device: the readings of each height.
use Rattle.std.specs.Prelude.{ℕ, zero, suc}
use Rattle.c_exprs.specs.Subs.{Subs, nothing}
use Rattle.c_exprs.specs.ExprReading.{expression, parenthesised, starred, literal_of}
use Rattle.c_exprs.specs.SpecifierReading.{specifiers}
use Rattle.c_exprs.specs.DeclaratorReading.{declarator}
use Rattle.c_exprs.specs.InitReading.{items}

-- those of one height from those of the height below
abbrev pub readings : ℕ → Subs → Subs
readings h sub = record {
  expr = λ level ds. expression h sub level ds;
  parenthesised = λ at ds. parenthesised h sub at ds;
  starred = λ at ds. starred h sub at ds;
  literal = λ at t. literal_of h sub at t;
  specifiers = λ form ds. specifiers h sub form ds;
  declarator = λ form ds. declarator h sub form ds;
  items = λ ds. items h sub ds;
}

-- the readings of trees that are lower than that height; trees of at most height h are read by `readings h (below h)`
unfoldable pub below : ℕ → Subs
below zero = nothing
below (suc h) = readings h (below h)
