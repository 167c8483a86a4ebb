-- The joint sheet by the heads and the entries of two sheets, as the code of joining makes it.
use Rattle.std.specs.Prelude.{ℕ, max, List, length}
use Rattle.model.specs.Sheets.{most_steps}
use Rattle.model.specs.Values.{idles, blank_marks, padded, head_of, head_value_of}
use Rattle.model.specs.declared.Head.{Head}
use Rattle.model.specs.declared.Sheet.{Sheet}
use Rattle.joint.specs.Joint.{joint_head}
use Rattle.join.specs.inner.Entries.{entries_of}

-- the joint sheet, of form 3, by two heads and the entries of two records
unfoldable pub joint_sheet_of : Head → Head → List ℕ → List ℕ → Sheet
joint_sheet_of p q xs ys =
    record {
      form = 3;
      head = head_of (joint_head (head_value_of p) (head_value_of q));
      steps = max (length xs) (length ys);
      touches = padded (entries_of p.segs xs ys (max (length xs) (length ys))) (idles most_steps);
      marked = 0;
      marks = blank_marks most_steps;
    }
