use Rattle.window_pop.proofs.Fills.{fills}
use Rattle.window_pop.proofs.pop.put_payload.Goals as goal

pub overflow_mul-a : goal.overflow_mul-a
overflow_mul-a c = search fills

pub overflow_add-e : goal.overflow_add-e
overflow_add-e c = search fills

pub slice_bounds-put-count : goal.slice_bounds-put-count
slice_bounds-put-count c = search fills

pub slice_bounds-put-start : goal.slice_bounds-put-start
slice_bounds-put-start c = search fills

pub slice_bounds-put-end : goal.slice_bounds-put-end
slice_bounds-put-end c = search fills

pub put-requires : goal.put-requires
put-requires c = search fills

pub shape_of-out : goal.shape_of-out
shape_of-out c = search fills

pub returns : goal.returns
returns c = search fills
