-- The arrays of a guard as one value. Assumes nothing: definitions.
use Rattle.guard.specs.Guard.{Guard}
use Rattle.arrays.specs.Arrays.{constants_of, fieldless_of, full_of, reads_of, shapes_of, sorts_of}
use Rattle.problem.specs.declared.Problem.{Problem}

unfoldable pub problem_of : Guard → Problem
problem_of g =
    record {
      shapes = shapes_of g;
      reads = reads_of g;
      sorts = sorts_of g;
      full = full_of g;
      fieldless = fieldless_of g;
      constants = constants_of g;
    }
