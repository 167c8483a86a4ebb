-- The figures of rows as numbers.
use Rattle.std.specs.Prelude.{ℕ, List, [], ◌∷◌, ◌++◌}
use Rattle.model.specs.declared.RowFigures.{RowFigures}

-- the figures of a row as numbers, in the listing's order
abbrev pub figure_list : RowFigures → List ℕ
figure_list f =
    f.h ∷ f.d ∷ f.misses ∷ f.volume ∷ f.load.0 ∷ f.optmem.0 ∷ f.opttotal ∷ f.optocc ∷ f.wsmem ∷ f.wsocc ∷ f.mean ∷ []

-- the figures of rows, one after the other
unfoldable pub figure_lists : List RowFigures → List ℕ
figure_lists [] = []
figure_lists (f ∷ fs) = figure_list f ++ figure_lists fs
