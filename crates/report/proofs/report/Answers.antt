-- `report::report` meets its contract: the answer of the analysis is put as lines, and these are the report of the file.
-- Assumes nothing.
use Rattle.model.specs.Text.{bytes}
use Rattle.report.proofs.Whole.{long_printed, called_holds, short_printed}
use Rattle.report.proofs.report.Goals as goal

pub returns-then-file-gt-MOST_BYTES : goal.returns-then-file-gt-MOST_BYTES
unfolding bytes
returns-then-file-gt-MOST_BYTES c =
    let told = long_printed _ _ _ _ _ _ c.if-file-gt-MOST_BYTES.true c.put_text.ensures
    in record { value = told.0; out_after = told.1.0; work_after = told.1.1.0; list_after = told.1.1.1 }

pub put_answer-requires : goal.put_answer-requires
put_answer-requires c =
    called_holds _ _ _ _ _ _ _ _ _
    record {
      records = c.records-records.ensures;
      budget = c.budget_of-budget.ensures;
      tasks = c.tasks_of-tasks.ensures;
      answer = c.analyse-found.ensures.value;
      work_left = c.analyse-found.ensures.work_after;
      list_left = c.analyse-found.ensures.list_after;
    }

pub returns : goal.returns
returns c =
    let told = short_printed _ _ _ _ _ _ _ _ _
    record {
      records = c.records-records.ensures;
      budget = c.budget_of-budget.ensures;
      tasks = c.tasks_of-tasks.ensures;
      answer = c.analyse-found.ensures.value;
      work_left = c.analyse-found.ensures.work_after;
      list_left = c.analyse-found.ensures.list_after;
    }
    _
    _
    _
    c.if-file-gt-MOST_BYTES.false
    c.put_answer.ensures
    in record { value = told.0; out_after = told.1.0; work_after = told.1.1.0; list_after = told.1.1.1 }
