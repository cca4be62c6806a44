use borrow.Author.Rules.{rules}
use Rattle.hexline.specs.TakenLaws.{takes_pairs_fit, takes_end_fits, takes_long, takes_data}
use Rattle.hexline.proofs.take.take_record.Goals as goal

pub overflow_mul-count : goal.overflow_mul-count
overflow_mul-count c = search (rules, takes_pairs_fit)

pub overflow_add-count : goal.overflow_add-count
overflow_add-count c = search (rules, takes_end_fits)

pub returns-in-Ok-Data : goal.returns-in-Ok-Data
returns-in-Ok-Data c = takes_data _ _ _ _ (search rules) _ c.judge_in_place-judged.ensures c.in-Ok-Data.count (search rules) _ _ c.put_bytes.ensures

pub slice_bounds-put_bytes-end : goal.slice_bounds-put_bytes-end
slice_bounds-put_bytes-end c = search (rules, takes_long)
