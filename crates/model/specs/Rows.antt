-- The eleven items of a row, as the listing prints them.
use Rattle.std.specs.Prelude.{ℕ}
use Rattle.model.specs.Traces.{Trace}
use Rattle.model.specs.Figures.{misses, volume, load, optmem, opttotal, optocc, wsmem, wsocc, mean}
use Rattle.model.specs.declared.RowFigures.{RowFigures}

-- the figures of a run at a row h/d
unfoldable pub row_figures : Trace → ℕ → ℕ → RowFigures
row_figures T h d =
    record {
      h = h;
      d = d;
      misses = misses T h d;
      volume = volume T h d;
      load = record { 0 = load T h d };
      optmem = record { 0 = optmem T h d };
      opttotal = opttotal T h d;
      optocc = optocc T h d;
      wsmem = wsmem T h d;
      wsocc = wsocc T h d;
      mean = mean T h d;
    }

-- all figures zero
abbrev pub zero_figures : RowFigures
zero_figures =
    record {
      h = 0;
      d = 0;
      misses = 0;
      volume = 0;
      load = record { 0 = 0 };
      optmem = record { 0 = 0 };
      opttotal = 0;
      optocc = 0;
      wsmem = 0;
      wsocc = 0;
      mean = 0;
    }
